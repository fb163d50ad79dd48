-- Sights of nodes, where one was changed or taken out, and what a load that asks for nothing gets.
use Rattle.std.proofs.Common.{◌≡◌, ◌≢◌, ℕ, ◌==◌, Bool, true, false, cond, not, List, [], ◌∷◌, map, Option, Some, None, option_map, if◌then◌else◌, nat_eq, ne_eqb, refl, ap, sym, ◌∙◌}
use Rattle.std.proofs.lemmas.Bool.{eqb-true}
use Rattle.reg_model.specs.Receipt.{member_of, stamp_of}
use Rattle.reg_model.specs.declared.answer.Found.{Found}
use Rattle.reg_model.specs.declared.answer.Found.TheVariants.{Hit, Miss}
use Rattle.reg_model.specs.declared.answer.Receipt.{Receipt}
use Rattle.word_rule.specs.Sights.{found_at, mark_child, or_mark, place_of, place_under, receipts_after_version, sight_of, try_receipts, with_word, without_sight}
use Rattle.word_rule.specs.declared.log.Ask.TheVariants as ask
use Rattle.word_rule.specs.declared.log.Log.{Log}
use Rattle.word_rule.specs.declared.log.NodeSight.{NodeSight}

-- the sight of a node, where each sight was changed and kept its node
pub sight_changed : (n : ℕ) (f : NodeSight → NodeSight) → ((s : NodeSight) → (f s).node ≡ s.node) → (sights : List NodeSight) → sight_of n (map f sights) ≡ option_map f (sight_of n sights)
sight_changed n f keeps [] = refl
sight_changed n f keeps (s ∷ sights) = ap (λ m. cond (m == n) (Some (f s)) (sight_of n (map f sights))) (keeps s) ∙ go (nat_eq s.node n) (sight_changed n f keeps sights)
  where
    go : (b : Bool) → sight_of n (map f sights) ≡ option_map f (sight_of n sights) → cond b (Some (f s)) (sight_of n (map f sights)) ≡ option_map f (cond b (Some s) (sight_of n sights))
    go true later = refl
    go false later = later

-- a word that joins the sight of its node
pub word_keeps : (n at value : ℕ) (s : NodeSight) → (with_word n at value s).node ≡ s.node
word_keeps n at value s = go (nat_eq s.node n)
  where
    go : (b : Bool) → (if b then record s { words = record { at = at; value = value } ∷ s.words } else s).node ≡ s.node
    go true = refl
    go false = refl

-- a sight that its parent's sight marks
pub mark_keeps : (parent s : NodeSight) → (mark_child parent s).node ≡ s.node
mark_keeps parent s = go (nat_eq s.node parent.node)
  where
    go : (b : Bool) → (if b then s else record s { mark = or_mark (place_under s.node parent (place_of parent)) s.mark }).node ≡ s.node
    go true = refl
    go false = refl

-- the sights of other nodes, where one was taken out
pub without_other : (n m : ℕ) → m ≢ n → (sights : List NodeSight) → sight_of m (without_sight n sights) ≡ sight_of m sights
without_other n m far [] = refl
without_other n m far (s ∷ sights) = go (nat_eq s.node n) refl (without_other n m far sights)
  where
    go : (b : Bool) → nat_eq s.node n ≡ b → sight_of m (without_sight n sights) ≡ sight_of m sights → sight_of m (if not b then s ∷ without_sight n sights else without_sight n sights) ≡ cond (s.node == m) (Some s) (sight_of m sights)
    go true e later = later ∙ sym (ap (λ b. cond b (Some s) (sight_of m sights)) (ne_eqb s.node m (λ same. far (sym same ∙ eqb-true s.node n e))))
    go false e later = ap (cond (s.node == m) (Some s)) later

-- a load that asks for nothing gets no receipt
pub no_receipt : (v : Log) (found : ℕ) (o : Option NodeSight) → receipts_after_version v ask.Nothing found o ≡ []
no_receipt v found None = refl
no_receipt v found (Some s) = go (s.version == found)
  where
    go : (b : Bool) → ◌≡◌ {A = List Receipt} (if b then try_receipts v ask.Nothing s s.clock else []) []
    go true = refl
    go false = refl

-- what was found, put together of its parts
pub found_is : (found : Found) → found_at (member_of found) (stamp_of found) ≡ found
found_is (Hit m stamp) = refl
found_is (Miss stamp) = refl

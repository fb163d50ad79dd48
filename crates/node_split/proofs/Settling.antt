-- What is held and not changed by a split stays settled.
use Rattle.std.proofs.Common.{◌≡◌, refl, Bool, true, false, if◌then◌else◌, ℕ, List, ap, ◌∙◌, IsTrue, Some, None, is_some, IsSome, ◌||◌, true≢false, [], ◌∷◌, sym, map}
use Rattle.std.specs.List.{AllByRecursion}
use Rattle.tree_shape.specs.NodeData.{NodeData, frame_of}
use Rattle.tree_laws.specs.Numbers.{is_among}
use Rattle.tree_laws.specs.Trees.{Contents}
use Rattle.tree_laws.specs.LocalChange.{IsChangeOf}
use Rattle.word_rule.specs.declared.log.Holding.{Holding}
use Rattle.word_rule.specs.Exchange.{exchange}
use Rattle.word_rule.specs.Held.{now_of}
use Rattle.word_rule.specs.Spelling.{spelled, SpellsNode}
use Rattle.tree_descent.proofs.Settling.{FitsChange, settled_still}

either_way : (b : Bool) (s : NodeData) → (if b then s else s) ≡ s
either_way true s = refl
either_way false s = refl

pub settled_new : (group reached : List ℕ) (h : Holding) (s : NodeData) → h.mark ≡ None → IsTrue (is_among reached h.node) → SpellsNode h.words s → exchange (is_among group) (is_among reached) h ≡ record h { settled = s; mark = Some (frame_of s) }
settled_new group reached h s unmarked on spells =
    let content : (exchange (is_among group) (is_among reached) h).settled ≡ s = ap (λ m. if is_among group h.node then now_of h (spelled h.words) else (if is_some m then h.settled else now_of h (spelled h.words))) unmarked ∙ (either_way (is_among group h.node) (now_of h (spelled h.words)) ∙ ap (now_of h) spells) in
    let mark = ap (λ b. if b then Some (frame_of (now_of h (spelled h.words))) else (if is_among group h.node then None else h.mark)) on ∙ ap (λ o. Some (frame_of (now_of h o))) spells in
    (λ i. record h { settled = content i; mark = mark i })

-- a lock that an exchange leaves as it is: of a live node that has settled, which is no part of it
pub record StaysSettled (f : Contents) (live : ℕ → Bool) (group reached : List ℕ) (h : Holding) : Type 0 where
  pub mark : IsSome h.mark
  pub spells : SpellsNode h.words h.settled
  pub lives : IsTrue (live h.node)
  pub content : f h.node ≡ h.settled
  pub outside : is_among group h.node ≡ false
  pub off : is_among reached h.node ≡ false

neither : (a b : Bool) → a ≡ false → (b ≡ true → ⊥) → (a || b) ≡ false
neither true b e never = absurd (true≢false e)
neither false true e never = absurd (never refl)
neither false false e never = refl

pub stays_fit : (f : Contents) (live : ℕ → Bool) (top : ℕ) (group fresh : List ℕ) (g : Contents) (reached : List ℕ) → IsChangeOf f live top group fresh g None reached → (held : List Holding) → AllByRecursion (StaysSettled f live group reached) held → AllByRecursion (FitsChange f live group fresh g) held
stays_fit f live top group fresh g reached change [] all = tt
stays_fit f live top group fresh g reached change (h ∷ held) all =
    let s = all.0 in
    let never : is_among fresh h.node ≡ true → ⊥ = λ e. true≢false (sym s.lives ∙ change.lawful.change.fresh_free h.node e) in
    let stays : g h.node ≡ f h.node = change.lawful.change.others_stay h.node (neither (is_among group h.node) (is_among fresh h.node) s.outside never) in (
      record {
        marked = λ m. (s.lives, s.content, s.spells ∙ ap Some (sym (stays ∙ s.content)));
        leaves = λ e. absurd (true≢false (sym e ∙ s.outside));
        enters = λ e. absurd (never e);
      },
      stays_fit f live top group fresh g reached change held all.1,
    )

pub stay_settled : (f : Contents) (live : ℕ → Bool) (group reached : List ℕ) (held : List Holding) → AllByRecursion (StaysSettled f live group reached) held → map (exchange (is_among group) (is_among reached)) held ≡ held
stay_settled f live group reached [] all = refl
stay_settled f live group reached (h ∷ held) all = (λ i. settled_still group reached h all.0.mark all.0.outside all.0.off i ∷ stay_settled f live group reached held all.1 i)

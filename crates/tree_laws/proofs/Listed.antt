-- Changes whose nodes are listed, and the tree after them.
use Rattle.std.proofs.Common.{◌≡◌, ◌≢◌, ℕ, List, refl, sym, ap, ◌∙◌, subst, Bool, true, false}
use Rattle.std.proofs.Common.{IsTrue, eqb, inl, inr}
use Rattle.std.specs.Prelude.{Option, None}
use mathlib.Core.Path.{fun_ext}
use Rattle.std.specs.List.{AllByRecursion}
use Rattle.std.proofs.lemmas.Bool.{cases_Bool, cond-true, cond-false, eq-eqb, ne_eqb, or_cases}
use Rattle.std.proofs.lemmas.Bool.{or_parts, both_ways}
use Rattle.reg_model.specs.declared.span.Member.{Member}
use Rattle.reg_model.specs.declared.answer.Update.{Update}
use Rattle.tree_laws.specs.Numbers.{once, is_among}
use Rattle.tree_laws.specs.Trees.{Contents, HasEntry}
use Rattle.tree_laws.specs.Lawful.{IsTree, IsLawfulTree}
use Rattle.tree_laws.specs.LocalChange.{IsLawfulChange, IsChangeOf, EntriesBecome, either}
use Rattle.tree_laws.specs.LocalChange.{live_after, reached_nodes}
use Rattle.tree_laws.specs.Steps.{Keeps, with_node, without_node}
use Rattle.tree_laws.proofs.Times.{all_among}
use Rattle.tree_laws.proofs.Local.{tree_after, filled_after}
use Rattle.tree_laws.proofs.Transfers.{become_same, same_tests}
use Rattle.tree_laws.proofs.Becomes.{tree_becomes}

-- the same nodes are live
pub tree_same : (g : Contents) (a b : ℕ → Bool) → ((x : ℕ) → a x ≡ b x) → IsTree g a → IsTree g b
tree_same g a b same tree = record {
  root_low = tree.root_low;
  root_high = tree.root_high;
  height = tree.height;
  reached = λ x. tree.reached x ∙ ap once (same x);
  ordered = λ x alive. tree.ordered x (same x ∙ alive);
  fitting = λ x alive. tree.fitting x (same x ∙ alive);
}

pub entry_same : (g : Contents) (a b : ℕ → Bool) → ((x : ℕ) → a x ≡ b x) → (m : Member) →
    HasEntry g a m → HasEntry g b m
entry_same g a b same m (x, (alive, held)) = (x, (sym (same x) ∙ alive, held))

-- A lawful change by other tests that are the same at each number: the tests of lists.
pub named : (f : Contents) (live : ℕ → Bool) (top : ℕ) (group fresh : ℕ → Bool)
    (group_nodes fresh_nodes : List ℕ) (g : Contents)
    (update : Option Update) (reached : List ℕ) → ((x : ℕ) → group x ≡ is_among group_nodes x) →
    ((x : ℕ) → fresh x ≡ is_among fresh_nodes x) →
    IsLawfulChange f live top group fresh g update → reached_nodes top group fresh g ≡ reached →
    IsChangeOf f live top group_nodes fresh_nodes g update reached
named f live top group fresh group_nodes fresh_nodes g update reached e e' lawful is = record {
  lawful = same_tests f live top group fresh (is_among group_nodes) (is_among fresh_nodes) g update
      e e' lawful;
  reaches = subst (λ a. reached_nodes top a (is_among fresh_nodes) g ≡ reached) (fun_ext e)
      (subst (λ a. reached_nodes top group a g ≡ reached) (fun_ext e') is);
}

-- The tree after it, where these are the live nodes: of the group and the fresh nodes those that
-- are reached, and the others as before.
pub live_now : (live live' : ℕ → Bool) (top : ℕ) (group fresh : List ℕ) (g : Contents)
    (reached : List ℕ) →
    reached_nodes top (is_among group) (is_among fresh) g ≡ reached →
    AllByRecursion (λ x. live' x ≡ is_among reached x) group →
    AllByRecursion (λ x. live' x ≡ is_among reached x) fresh →
    ((x : ℕ) → is_among group x ≡ false → is_among fresh x ≡ false → live' x ≡ live x) →
    (x : ℕ) → live_after live top (is_among group) (is_among fresh) g x ≡ live' x
live_now live live' top group fresh g reached is of_group of_fresh outside x =
    elim (cases_Bool (either (is_among group) (is_among fresh) x)) [
      | inl touched ↦
          cond-true (either (is_among group) (is_among fresh) x)
          (is_among (reached_nodes top (is_among group) (is_among fresh) g) x) (live x) touched
          ∙ ap (λ l. is_among l x) is
          ∙ sym (elim (or_cases (is_among group x) (is_among fresh x) touched) [
            | inl inside ↦ all_among (λ y. live' y ≡ is_among reached y) group x of_group inside
            | inr new' ↦ all_among (λ y. live' y ≡ is_among reached y) fresh x of_fresh new'
          ])
      | inr untouched ↦
          let parts = or_parts (is_among group x) (is_among fresh x) untouched in
          cond-false (either (is_among group) (is_among fresh) x)
          (is_among (reached_nodes top (is_among group) (is_among fresh) g) x) (live x)
          untouched
          ∙ sym (outside x parts.0 parts.1)
    ]

pub lawful_now : (f : Contents) (live live' : ℕ → Bool) (top : ℕ) (group fresh : List ℕ)
    (g : Contents) (update : Option Update) (reached : List ℕ) →
    IsLawfulTree f live → IsChangeOf f live top group fresh g update reached →
    ((x : ℕ) → live_after live top (is_among group) (is_among fresh) g x ≡ live' x) →
    IsLawfulTree g live' × EntriesBecome update (HasEntry f live) (HasEntry g live')
lawful_now f live live' top group fresh g update reached lawful change same =
    let local = change.lawful.change in
    let after' = live_after live top (is_among group) (is_among fresh) g in (
      record {
        tree = tree_same g after' live' same
            (tree_after f live top (is_among group) (is_among fresh) g lawful.tree local);
        filled = λ x alive. filled_after f live top (is_among group) (is_among fresh) g lawful.tree
            local (λ y there outside. lawful.filled y there)
            change.lawful.filled x (same x ∙ alive);
      },
      become_same update (HasEntry f live) (HasEntry g after') (HasEntry f live) (HasEntry g live')
          (λ m. (λ h. h, λ h. h))
          (λ m. (entry_same g live' after' (λ x. sym (same x)) m, entry_same g after' live' same m))
          (tree_becomes f live top (is_among group) (is_among fresh) g lawful.tree local update
          change.lawful.entries),
    )

pub keeps_now : (f : Contents) (live live' : ℕ → Bool) (top : ℕ) (group fresh : List ℕ)
    (g : Contents) (reached : List ℕ) →
    IsLawfulTree f live → IsChangeOf f live top group fresh g None reached →
    AllByRecursion (λ x. live' x ≡ is_among reached x) group →
    AllByRecursion (λ x. live' x ≡ is_among reached x) fresh →
    ((x : ℕ) → is_among group x ≡ false → is_among fresh x ≡ false → live' x ≡ live x) →
    Keeps f live g live'
keeps_now f live live' top group fresh g reached lawful change of_group of_fresh outside =
    let now = lawful_now f live live' top group fresh g None reached lawful change
    (live_now live live' top group fresh g reached change.reaches of_group of_fresh outside) in
    record { lawful = now.0; entries = now.1 }

-- the new node is live, and all others as before
pub with_fresh : (live : ℕ → Bool) (r : ℕ) → live r ≡ false → (x : ℕ) → IsTrue (live x) →
    IsTrue (with_node r live x)
with_fresh live r free x alive =
    cond-false (eqb x r) true (live x)
    (ne_eqb x r (λ e. both_ways (live r) free (subst (λ y. IsTrue (live y)) e alive))) ∙ alive

pub with_itself : (live : ℕ → Bool) (r : ℕ) → IsTrue (with_node r live r)
with_itself live r = cond-true (eqb r r) true (live r) (eq-eqb r r refl)

pub with_other : (live : ℕ → Bool) (r x : ℕ) → x ≢ r → with_node r live x ≡ live x
with_other live r x other = cond-false (eqb x r) true (live x) (ne_eqb x r other)

-- without a node all others are as before
pub without_other : (live : ℕ → Bool) (r x : ℕ) → x ≢ r → without_node r live x ≡ live x
without_other live r x other = cond-false (eqb x r) false (live x) (ne_eqb x r other)

pub without_itself : (live : ℕ → Bool) (r : ℕ) → without_node r live r ≡ false
without_itself live r = cond-true (eqb r r) false (live r) (eq-eqb r r refl)

-- A slot of a live node: the pairs before it and after it, and its child.
use Rattle.std.proofs.Common.{◌≡◌, ◌≢◌, ℕ, zero, suc, ◌+◌, ◌-◌, ◌<◌, List, [], ◌∷◌, ◌++◌, length}
use Rattle.std.proofs.Common.{map, refl, ap, sym, ◌∙◌, subst, arith, Bool, IsTrue, inl, inr, Some}
use Rattle.std.specs.List.{flat_map, AllByRecursion, slice_get}
use Rattle.std.specs.Prelude.{None}
use Rattle.std.proofs.lemmas.List.{length-append}
use Rattle.tree_shape.specs.declared.pair.Pair.{Pair}
use Rattle.tree_laws.specs.Numbers.{times, is_among}
use Rattle.tree_shape.specs.NodeData.{NodeData, Body, Pairs, Entries, Link, entries_of, pairs_of}
use Rattle.tree_shape.specs.NodeData.{pairs_in, Cut}
use Rattle.tree_shape.specs.Changes.{at_slot}
use Rattle.tree_laws.specs.Trees.{Contents, Branch, branch, branches_from, branches}
use Rattle.tree_laws.specs.Lawful.{IsTree, IsOrderedAs, IsFilled, FitsParent}
use Rattle.tree_laws.specs.LocalChange.{IsChangeOf}
use Rattle.tree_laws.proofs.Times.{In, in_right, some_same, listed_family}
use Rattle.tree_laws.proofs.Living.{own_branches, own_at, child_live, child_fits, root_no_child}
use Rattle.tree_laws.proofs.Living.{own_child}
use Rattle.tree_laws.proofs.Listed.{named}
use Rattle.tree_laws.proofs.Runs.{next_low, branches-append}
use Rattle.tree_laws.proofs.Family.{numbers, family, Regroups, regroups, reached_now}
use Rattle.tree_laws.proofs.Family.{family_entries}

-- the pairs around a slot
pub record Around (pairs : List Pair) (slot : ℕ) (p : Pair) : Type 0 where
  pub front : List Pair
  pub back : List Pair
  pub is : pairs ≡ front ++ p ∷ back
  pub changed : (change : Pair → List Pair → List Pair) → at_slot change slot pairs ≡ front ++ change p back
  pub next : slice_get pairs (suc slot) ≡ slice_get back 0

pub around_slot : (pairs : List Pair) (slot : ℕ) (p : Pair) → slice_get pairs slot ≡ Some p → Around pairs slot p
around_slot [] slot p at = absurd (cc)
around_slot (q ∷ pairs) zero p at =
    let e = some_same q p at in
    record { front = []; back = pairs; is = ap (λ x. x ∷ pairs) e; changed = λ change. ap (λ x. change x pairs) e; next = refl }
around_slot (q ∷ pairs) (suc slot) p at =
    let rest = around_slot pairs slot p at in
    record {
      front = q ∷ rest.front;
      back = rest.back;
      is = ap (λ ps. q ∷ ps) rest.is;
      changed = λ change. ap (λ ps. q ∷ ps) (rest.changed change);
      next = rest.next;
    }

-- a node with pairs stands above level 0
pub above_zero : (s : NodeData) (b : Body) → IsOrderedAs s b → 0 < length (pairs_in b) → (level : ℕ) × (s.level ≡ suc level)
above_zero s (Pairs pairs) ordered some = (s.level - 1, omega arith)
above_zero s (Entries entries) ordered some = absurd (omega arith)
above_zero s (Link next) ordered some = absurd ordered

pub ordered_pairs : (s : NodeData) (b : Body) → IsOrderedAs s b → 0 < length (pairs_in b) → (0 < s.level) × Cut s.low s.high (pairs_in b)
ordered_pairs s (Pairs pairs) ordered some = ordered
ordered_pairs s (Entries entries) ordered some = absurd (omega arith)
ordered_pairs s (Link next) ordered some = absurd ordered

pub filled_pairs : (n : ℕ) (s : NodeData) → IsFilled n s → 0 < length (pairs_of s) → s.body ≡ Pairs (pairs_of s)
filled_pairs n s filled some = is s.body some
  where
    is : (b : Body) → 0 < length (pairs_in b) → b ≡ Pairs (pairs_in b)
    is (Pairs pairs) some = refl
    is (Entries entries) some = absurd (omega arith)
    is (Link next) some = absurd (omega arith)

-- A family that is regrouped, with the new children's entries those of the old ones, is a lawful
-- change.
pub family_changes : (f : Contents) (live : ℕ → Bool) → IsTree f live →
    (n level : ℕ) (front old new back : List Branch)
    (fresh : ℕ → Bool) (fresh_nodes : List ℕ) (g : Contents) →
    Regroups f live n level front old new back fresh g →
    ((x : ℕ) → fresh x ≡ is_among fresh_nodes x) →
    flat_map (λ (b : Branch). entries_of (g b.child)) new ≡ flat_map (λ (b : Branch). entries_of (f b.child)) old →
    IsFilled n (g n) → ((b : Branch) → In b new → IsFilled b.child (g b.child)) →
    IsChangeOf f live n (n ∷ numbers old) fresh_nodes g None (n ∷ numbers new)
family_changes f live tree n level front old new back fresh fresh_nodes g r tests members filled
    each =
    let reached = reached_now f live tree n level front old new back fresh g r in
    named f live n (family n old) fresh (n ∷ numbers old) fresh_nodes g None (n ∷ numbers new)
    (λ x. listed_family n (numbers old) x) tests
    (record {
      change = regroups f live tree n level front old new back fresh g r;
      filled = subst (AllByRecursion (λ x. IsFilled x (g x))) (sym reached) (filled, over new each);
      entries = family_entries f live tree n level front old new back fresh g r members;
    })
    reached
  where
    over : (bs : List Branch) → ((b : Branch) → In b bs → IsFilled b.child (g b.child)) → AllByRecursion (λ x. IsFilled x (g x)) (numbers bs)
    over [] each = tt
    over (b ∷ bs) each = (each b (inl refl), over bs (λ c there. each c (inr there)))

-- A live node's slot: its child is a live node of the level below, and no root.
pub record Slotted (f : Contents) (live : ℕ → Bool) (n : ℕ) (front : List Pair) (p : Pair) (back : List Pair) : Type 0 where
  pub level : ℕ
  pub at : (f n).level ≡ suc level
  pub before : branches level (f n) ≡ branches_from level (f n).low front
      ++ (branch p.child level (next_low (f n).low front) p.separator ∷ [] ++ branches_from level
      (p.separator + 1) back)
  pub alive : IsTrue (live p.child)
  pub fits : FitsParent f (branch p.child level (next_low (f n).low front) p.separator)
  pub no_root : p.child ≢ 0
  pub no_parent : p.child ≢ n

pub slotted : (f : Contents) (live : ℕ → Bool) → IsTree f live → (n : ℕ) → IsTrue (live n) → (front : List Pair) (p : Pair) (back : List Pair) → pairs_of (f n) ≡ front ++ p ∷ back →
    Slotted f live n front p back
slotted f live tree n alive front p back is =
    let len : length (pairs_of (f n)) ≡ length front + suc (length back) = ap length is ∙ length-append front (p ∷ back) in
    let up = above_zero (f n) (f n).body (tree.ordered n alive) (omega arith) in
    let b : Branch = branch p.child up.0 (next_low (f n).low front) p.separator in
    let before : branches up.0 (f n) ≡ branches_from up.0 (f n).low front ++ (b ∷ branches_from up.0 (p.separator + 1) back) =
    ap (branches_from up.0 (f n).low) is ∙ branches-append up.0 (f n).low front (p ∷ back) in
    let own : In b (own_branches f n) = subst (λ bs. In b bs) (sym (own_at f n up.0 up.1 ∙ before)) (in_right (branches_from up.0 (f n).low front) (b ∷ branches_from up.0 (p.separator + 1) back) b (inl refl)) in
    let fits = child_fits f live tree n alive b own in
    record {
      level = up.0;
      at = up.1;
      before = before;
      alive = child_live f live tree n alive b own;
      fits = fits;
      no_root = λ e. root_no_child f live tree n alive (subst (λ x. 0 < times x (map (λ (q : Pair). q.child) (pairs_of (f n)))) e (own_child f n b own));
      no_parent = λ e. (let same : (f p.child).level ≡ (f n).level = ap (λ x. (f x).level) e in let level = fits.level in let at = up.1 in absurd (omega arith));
    }

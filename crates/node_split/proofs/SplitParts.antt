-- What a split makes of single nodes: slots, children and sizes.
use Rattle.std.proofs.Common.{ℕ, zero, suc, ◌+◌, ◌≤◌, List, [], ◌∷◌, subst, arith, Contains, ◌≡◌, slice_get, sym, refl, ap, false, nat_le, Some, le-leb, if◌then◌else◌, Bool, true, length, ◌≢◌, ◌<◌, ◌∙◌}
use Rattle.std.proofs.lemmas.Bool.{lt-leb, leb-true, leb-false}
use Rattle.std.proofs.lemmas.Option.{none-some, same_Some}
use Rattle.std.proofs.lemmas.List.{length-take-le, length-drop}
use Rattle.tree_shape.specs.declared.pair.Pair.{Pair}
use Rattle.tree_shape.specs.NodeData.{Cut, slot_for, Body, Pairs, Entries, Link, NodeData, pairs_of}
use Rattle.tree_laws.specs.Trees.{Branch, branches_from, branch}
use Rattle.tree_shape.specs.Changes.{at_slot, divide, first_part, last_part, size, first_half}
use Rattle.tree_laws.specs.Steps.{middle, IsFull}
use Rattle.node_store.specs.Writing.{kind_of_body}
use Rattle.tree_descent.specs.Stands.{HasSpace}

-- a child begins at or above where the pairs begin
begins : (level low high : ℕ) (pairs : List Pair) (b : Branch) → Cut low high pairs → Contains (branches_from level low pairs) b → low ≤ b.frame.low
begins level low high [] b cut there = absurd (let l = there.1 in omega (arith, l))
begins level low high (p ∷ pairs) b cut (zero, l, e) = subst (λ (z : Branch). low ≤ z.frame.low) e (omega arith)
begins level low high (p ∷ pairs) b cut (suc k, l, e) =
    let r = begins level (p.separator + 1) high pairs b cut.1 (k, omega (arith, l), e) in let c = cut.0 in omega (arith, r, c)

-- the pair at the slot for an address has the child whose fences hold it
pub slot_of : (level low high pc : ℕ) (pairs : List Pair) (b : Branch) → Cut low high pairs → Contains (branches_from level low pairs) b → b.frame.low ≤ pc → pc ≤ b.frame.high → (p : Pair) × ((slice_get pairs (slot_for pc pairs) ≡ Some p) × (p.child ≡ b.child))
slot_of level low high pc [] b cut there least most = absurd (let l = there.1 in omega (arith, l))
slot_of level low high pc (q ∷ pairs) b cut (zero, l, e) least most =
    let inside : pc ≤ q.separator = subst (λ (z : Branch). pc ≤ z.frame.high) (sym e) most in
    (q, (rw (le-leb pc q.separator inside) refl, ap (λ (z : Branch). z.child) e))
slot_of level low high pc (q ∷ pairs) b cut (suc k, l, e) least most =
    let later : Contains (branches_from level (q.separator + 1) pairs) b = (k, omega (arith, l), e) in
    let from = begins level (q.separator + 1) high pairs b cut.1 later in
    let beyond : nat_le pc q.separator ≡ false = lt-leb pc q.separator (omega (arith, from, least)) in
    let rest = slot_of level (q.separator + 1) high pc pairs b cut.1 later least most in
    let next : slot_for pc pairs + 1 ≡ suc (slot_for pc pairs) = omega arith in
    (rest.0, (rw beyond (subst (λ k. slice_get (q ∷ pairs) k ≡ Some rest.0) (sym next) rest.1.0), rest.1.1))

-- the child to which an address leads after the pair at its slot was divided
abbrev Found : ℕ → ℕ → ℕ → ℕ → Pair → ℕ → ℕ → List Pair → Type 0
Found level pc fence fresh p slot from qs = (b : Branch) × (Contains (branches_from level from (at_slot (divide fence fresh) slot qs)) b × (b.child ≡ (if nat_le pc fence then p.child else fresh)) × (b.frame.low ≤ pc) × (pc ≤ b.frame.high))

pub divided : (level low pc fence fresh : ℕ) (pairs : List Pair) (p : Pair) → low ≤ pc → slice_get pairs (slot_for pc pairs) ≡ Some p
    → (b : Branch) × (Contains (branches_from level low (at_slot (divide fence fresh) (slot_for pc pairs) pairs)) b × (b.child ≡ (if nat_le pc fence then p.child else fresh)) × (b.frame.low ≤ pc) × (pc ≤ b.frame.high))
divided level low pc fence fresh [] p least at = absurd (none-some p at)
divided level low pc fence fresh (q ∷ pairs) p least at = go (nat_le pc q.separator) refl at (λ more there. divided level (q.separator + 1) pc fence fresh pairs p more there)
  where
    here : (c : Bool) → nat_le pc fence ≡ c → q ≡ p → pc ≤ q.separator
        → (b : Branch) × (Contains (branch q.child level low fence ∷ branch fresh level (fence + 1) q.separator ∷ branches_from level (q.separator + 1) pairs) b × (b.child ≡ (if c then p.child else fresh)) × (b.frame.low ≤ pc) × (pc ≤ b.frame.high))
    here true e same inside = (branch q.child level low fence, ((0, omega arith, refl), ap (λ (z : Pair). z.child) same, least, leb-true pc fence e))
    here false e same inside = (branch fresh level (fence + 1) q.separator, ((1, omega arith, refl), refl, (let b = leb-false pc fence e in omega (arith, b)), inside))

    go : (b : Bool) → nat_le pc q.separator ≡ b → slice_get (q ∷ pairs) (if b then 0 else (slot_for pc pairs + 1)) ≡ Some p → (q.separator + 1 ≤ pc → slice_get pairs (slot_for pc pairs) ≡ Some p → Found level pc fence fresh p (slot_for pc pairs) (q.separator + 1) pairs) → Found level pc fence fresh p (if b then 0 else (slot_for pc pairs + 1)) low (q ∷ pairs)
    go true is at later = here (nat_le pc fence) refl (same_Some _ _ at) (leb-true pc q.separator is)
    go false is at later =
        let next : slot_for pc pairs + 1 ≡ suc (slot_for pc pairs) = omega arith in
        let beyond = leb-false pc q.separator is in
        let rest = later (omega (arith, beyond)) (subst (λ k. slice_get (q ∷ pairs) k ≡ Some p) next at) in
        subst (λ k. Found level pc fence fresh p k low (q ∷ pairs)) (sym next) (rest.0, ((suc rest.1.0.0, (let l = rest.1.0.1 in omega (arith, l)), rest.1.0.2), rest.1.1, rest.1.2, rest.1.3))

-- the parent has a pair more
pub one_more : (fence fresh slot : ℕ) (pairs : List Pair) (p : Pair) → slice_get pairs slot ≡ Some p → length (at_slot (divide fence fresh) slot pairs) ≡ length pairs + 1
one_more fence fresh slot [] p at = absurd (none-some p at)
one_more fence fresh zero (q ∷ pairs) p at = omega arith
one_more fence fresh (suc slot) (q ∷ pairs) p at = let r = one_more fence fresh slot pairs p at in omega (arith, r)

-- What the halves of a full node are: of its kind, smaller, and with room.
pub record AreHalves (body : Body) : Type 0 where
  pub left_kind : kind_of_body (first_part (middle body) body) ≢ 2
  pub right_kind : kind_of_body (last_part (middle body) body) ≢ 2
  pub less : size (first_part (middle body) body) < size body
  pub left_room : HasSpace (first_part (middle body) body)
  pub right_room : HasSpace (last_part (middle body) body)

pub are_halves : (body : Body) → IsFull body → AreHalves body
are_halves body full = record {
  left_kind = (kinds body full).0;
  right_kind = (kinds body full).1;
  less = (sizes body full).0;
  left_room = (sizes body full).1;
  right_room = (sizes body full).2;
}
  where
    kinds : (b : Body) → IsFull b → (kind_of_body (first_part (middle b) b) ≢ 2) × (kind_of_body (last_part (middle b) b) ≢ 2)
    kinds (Pairs pairs) full = (λ e. omega (arith, e), λ e. omega (arith, e))
    kinds (Entries entries) full = (λ e. omega (arith, e), λ e. omega (arith, e))
    kinds (Link next) full = absurd full

    sizes : (b : Body) → IsFull b → (size (first_part (middle b) b) < size b) × HasSpace (first_part (middle b) b) × HasSpace (last_part (middle b) b)
    sizes (Pairs pairs) full = let first = length-take-le 7 pairs (omega (arith, full)) in let last = length-drop 7 pairs in (omega (arith, first, full), omega (arith, first), omega (arith, last, full))
    sizes (Entries entries) full = let first = length-take-le 5 entries (omega (arith, full)) in let last = length-drop 5 entries in (omega (arith, first, full), omega (arith, first), omega (arith, last, full))
    sizes (Link next) full = absurd full

-- what is stored differs from what was there
pub left_differs : (s : NodeData) → IsFull s.body → first_half (middle s.body) s ≢ s
left_differs s full e = let l = (are_halves s.body full).less in let z : size (first_part (middle s.body) s.body) ≡ size s.body = ap (λ (x : NodeData). size x.body) e in omega (arith, l, z)

pub above_differs : (s : NodeData) (fence fresh slot : ℕ) (p : Pair) → slice_get (pairs_of s) slot ≡ Some p → record s { body = Pairs (at_slot (divide fence fresh) slot (pairs_of s)) } ≢ s
above_differs s fence fresh slot p at e = let m = one_more fence fresh slot (pairs_of s) p at in let z : length (at_slot (divide fence fresh) slot (pairs_of s)) ≡ length (pairs_of s) = ap (λ (x : NodeData). length (pairs_of x)) e in omega (arith, m, z)

pub never_free : (s old : NodeData) (next : ℕ) → kind_of_body s.body ≢ 2 → old.body ≡ Link next → old ≢ s
never_free s old next kind is e = kind (ap (λ (x : NodeData). kind_of_body x.body) (sym e) ∙ ap kind_of_body is)

-- The separators lead to the leaf that holds an address, and only to it.
use Rattle.std.proofs.Common.{◌≡◌, ℕ, zero, suc, ◌+◌, ◌<◌, ◌≤◌, List, [], ◌∷◌, refl, ap, sym, ◌∙◌}
use Rattle.std.proofs.Common.{subst, arith, Bool, IsTrue, leb, inl, inr}
use Rattle.std.specs.List.{flat_map, Contains}
use Rattle.std.proofs.lemmas.Bool.{cases_lt, cond-true, cond-false, le-leb, lt-leb}
use Rattle.reg_model.specs.declared.span.Member.{Member}
use Rattle.tree_shape.specs.declared.pair.Pair.{Pair}
use Rattle.tree_laws.specs.Numbers.{times}
use Rattle.tree_shape.specs.NodeData.{NodeData, Body, Pairs, Entries, Link, pairs_of, pairs_in}
use Rattle.tree_shape.specs.NodeData.{entries_of, entries_in, EntriesWithin, Cut}
use Rattle.tree_laws.specs.Trees.{Contents, Branch, branch, branches_from, branches, nodes_under}
use Rattle.tree_laws.specs.Trees.{child_for, leaf_under}
use Rattle.tree_laws.specs.Lawful.{IsTree, IsOrderedAs}
use Rattle.tree_laws.proofs.Times.{In, times_cases, times_flat_map}
use Rattle.tree_laws.proofs.Reach.{branch_level}
use Rattle.tree_laws.proofs.Living.{own_branches, own_at, live_node, live_under, root_live}
use Rattle.tree_laws.proofs.Living.{child_live, child_fits}

-- `Contains` counts places, `In` goes by cases
pub contains_in : {X : Type 0} (xs : List X) (x : X) → Contains xs x → In x xs
contains_in [] x (k, below, at) = absurd (omega arith)
contains_in (y ∷ ys) x (zero, below, at) = inl at
contains_in (y ∷ ys) x (suc k, below, at) = inr (contains_in ys x (k, omega arith, at))

pub in_contains : {X : Type 0} (xs : List X) (x : X) → In x xs → Contains xs x
in_contains [] x there = absurd there
in_contains (y ∷ ys) x there = elim there [
  | inl e ↦ (0, omega arith, e)
  | inr later ↦ let at = in_contains ys x later in (suc at.0, omega (arith, at.1), at.2)
]

-- an entry of ordered ones lies between the fences
pub entry_inside : (low high : ℕ) (entries : List Member) (m : Member) → EntriesWithin low high entries → In m entries →
    (low ≤ m.span.first) × (m.span.last ≤ high)
entry_inside low high [] m within there = absurd there
entry_inside low high (e ∷ entries) m within there = elim there [
  | inl same ↦ subst (λ (x : Member). (low ≤ x.span.first) × (x.span.last ≤ high)) same
      (within.0.0, within.1.0)
  | inr later ↦ let rest = entry_inside (e.span.last + 1) high entries m (within.0.2, within.1.1)
      later in (omega arith, rest.1)
]

pub entry_ordered : (low high : ℕ) (entries : List Member) (m : Member) → EntriesWithin low high entries → In m entries → m.span.first ≤ m.span.last
entry_ordered low high [] m within there = absurd there
entry_ordered low high (e ∷ entries) m within there = elim there [
  | inl same ↦ subst (λ (x : Member). x.span.first ≤ x.span.last) same within.0.1
  | inr later ↦ entry_ordered (e.span.last + 1) high entries m (within.0.2, within.1.1) later
]

-- no separator lies above the high fence
pub last_below : (low high : ℕ) (pairs : List Pair) → Cut low high pairs → low ≤ high + 1
last_below low high [] cut = omega arith
last_below low high (p ∷ pairs) cut = let rest = last_below (p.separator + 1) high pairs cut.1 in omega arith

-- a branch lies between the fences of what is cut
pub branch_inside : (level low high : ℕ) (pairs : List Pair) (b : Branch) → Cut low high pairs →
    In b (branches_from level low pairs) →
    (low ≤ b.frame.low) × (b.frame.low ≤ b.frame.high) × (b.frame.high ≤ high)
branch_inside level low high [] b cut there = absurd there
branch_inside level low high (p ∷ pairs) b cut there = elim there [
  | inl same
      ↦ subst (λ (x : Branch). (low ≤ x.frame.low) × (x.frame.low ≤ x.frame.high)
      × (x.frame.high ≤ high)) same (
        omega arith,
        cut.0,
        omega (arith, last_below (p.separator + 1) high pairs cut.1),
      )
  | inr later ↦ let rest = branch_inside level (p.separator + 1) high pairs b cut.1 later in (omega arith, rest.1, rest.2)
]

-- the child for an address between a branch's fences is the branch's
pub child_for_branch : (pc level low high : ℕ) (pairs : List Pair) (b : Branch) →
    Cut low high pairs → In b (branches_from level low pairs) → b.frame.low ≤ pc →
    pc ≤ b.frame.high →
    child_for pc pairs ≡ b.child
child_for_branch pc level low high [] b cut there above below = absurd there
child_for_branch pc level low high (p ∷ pairs) b cut there above below = elim there [
  | inl same ↦
      let end : p.separator ≡ b.frame.high = ap (λ (x : Branch). x.frame.high) same in
      cond-true (leb pc p.separator) p.child (child_for pc pairs) (le-leb pc p.separator (omega arith)) ∙ ap (λ (x : Branch). x.child) same
  | inr later ↦
      let inside = branch_inside level (p.separator + 1) high pairs b cut.1 later in
      cond-false (leb pc p.separator) p.child (child_for pc pairs) (lt-leb pc p.separator (omega arith))
      ∙ child_for_branch pc level (p.separator + 1) high pairs b cut.1 later above below
]

-- an address between the fences lies between those of a branch
pub some_branch : (pc level low high : ℕ) (pairs : List Pair) → Cut low high pairs → low ≤ pc → pc ≤ high →
    (b : Branch)
    × (In b (branches_from level low pairs) × ((b.frame.low ≤ pc) × (pc ≤ b.frame.high)))
some_branch pc level low high [] cut above below = absurd (omega arith)
some_branch pc level low high (p ∷ pairs) cut above below = elim (cases_lt p.separator pc) [
  | inl past ↦
      let rest = some_branch pc level (p.separator + 1) high pairs cut.1 (omega arith) below in
      (rest.0, (inr rest.1.0, rest.1.1))
  | inr here ↦ (branch p.child level low p.separator, (inl refl, (above, here)))
]

-- what an ordered node says by its level
pub leaf_says : (s : NodeData) (b : Body) → IsOrderedAs s b → (m : Member) → In m (entries_in b) → (s.level ≡ 0) × EntriesWithin s.low s.high (entries_in b)
leaf_says s (Pairs pairs) ordered m there = absurd there
leaf_says s (Entries entries) ordered m there = ordered
leaf_says s (Link next) ordered m there = absurd there

pub leaf_at_zero : (s : NodeData) (b : Body) → IsOrderedAs s b → s.level ≡ 0 → EntriesWithin s.low s.high (entries_in b)
leaf_at_zero s (Pairs pairs) ordered level = absurd (omega arith)
leaf_at_zero s (Entries entries) ordered level = ordered.1
leaf_at_zero s (Link next) ordered level = absurd ordered

pub inner_above : (s : NodeData) (b : Body) → IsOrderedAs s b → 0 < s.level → Cut s.low s.high (pairs_in b)
inner_above s (Pairs pairs) ordered level = ordered.1
inner_above s (Entries entries) ordered level = absurd (omega arith)
inner_above s (Link next) ordered level = absurd ordered

-- An address inside the fences of a leaf below a node leads from the node to this leaf, and lies
-- inside the fences of each node on the way.
pub leads_inside : (f : Contents) (live : ℕ → Bool) → IsTree f live → (pc level n : ℕ) →
    IsTrue (live n) → (f n).level ≡ level →
    (x : ℕ) → 0 < times x (nodes_under f level n) → (f x).level ≡ 0 → (f x).low ≤ pc →
    pc ≤ (f x).high →
    (leaf_under f pc level n ≡ x) × ((f n).low ≤ pc) × (pc ≤ (f n).high)
leads_inside f live tree pc zero n alive at x there leaf above below =
    elim (times_cases x n [] there) [
      | inl e ↦ subst (λ y. (n ≡ y) × ((f n).low ≤ pc) × (pc ≤ (f n).high)) (sym e)
          (refl, subst (λ y. (f y).low ≤ pc) e above, subst (λ y. pc ≤ (f y).high) e below)
      | inr none ↦ absurd (omega arith)
    ]
leads_inside f live tree pc (suc level) n alive at x there leaf above below =
    elim (times_cases x n (flat_map (λ (b : Branch). nodes_under f level b.child) (branches level (f n))) there) [
      | inl e ↦ let same : (f x).level ≡ (f n).level = ap (λ y. (f y).level) e in
          absurd (omega arith)
      | inr later ↦
          let found = times_flat_map (λ (b : Branch). nodes_under f level b.child) (branches level (f n)) x later in
          let own : In found.0 (own_branches f n) = subst (λ bs. In found.0 bs) (sym (own_at f n level at)) found.1.0 in
          let fits = child_fits f live tree n alive found.0 own in
          let deeper = leads_inside f live tree pc level found.0.child
          (child_live f live tree n alive found.0 own)
          (fits.level ∙ branch_level level (f n).low (pairs_of (f n)) found.0 found.1.0) x found.1.1
          leaf above below in
          let cut = inner_above (f n) (f n).body (tree.ordered n alive) (omega arith) in
          let inside = branch_inside level (f n).low (f n).high (pairs_of (f n)) found.0 cut found.1.0 in
          let low = fits.low in
          let high = fits.high in
          let child = child_for_branch pc level (f n).low (f n).high (pairs_of (f n)) found.0 cut
          found.1.0
          (omega (arith, deeper.1)) (omega (arith, deeper.2)) in
          (ap (leaf_under f pc level) child ∙ deeper.0, omega (arith, deeper.1), omega (arith, deeper.2))
    ]

-- So each address of an entry leads to the entry's leaf.
pub leads : (f : Contents) (live : ℕ → Bool) → IsTree f live → (pc level n : ℕ) → IsTrue (live n) →
    (f n).level ≡ level →
    (x : ℕ) → 0 < times x (nodes_under f level n) → (m : Member) → In m (entries_of (f x)) →
    m.span.first ≤ pc → pc ≤ m.span.last →
    (leaf_under f pc level n ≡ x) × ((f n).low ≤ pc) × (pc ≤ (f n).high)
leads f live tree pc level n alive at x there m held above below =
    let says =
    leaf_says (f x) (f x).body
    (tree.ordered x (live_under f live tree level n alive at x there)) m held in
    let inside = entry_inside (f x).low (f x).high (entries_of (f x)) m says.1 held in
    leads_inside f live tree pc level n alive at x there says.0 (omega (arith, inside.0))
    (omega (arith, inside.1))

-- What holds of the leaf that an address leads to: it is live, of level 0, and its fences hold the
-- address.
abbrev pub Led : Contents → (ℕ → Bool) → ℕ → ℕ → Type 0
Led f live pc x = IsTrue (live x) × ((f x).level ≡ 0) × ((f x).low ≤ pc) × (pc ≤ (f x).high)

pub leads_to : (f : Contents) (live : ℕ → Bool) → IsTree f live → (pc level n : ℕ) →
    IsTrue (live n) → (f n).level ≡ level →
    (f n).low ≤ pc → pc ≤ (f n).high → Led f live pc (leaf_under f pc level n)
leads_to f live tree pc zero n alive at above below = (alive, at, above, below)
leads_to f live tree pc (suc level) n alive at above below =
    let cut = inner_above (f n) (f n).body (tree.ordered n alive) (omega arith) in
    let found = some_branch pc level (f n).low (f n).high (pairs_of (f n)) cut above below in
    let child = child_for_branch pc level (f n).low (f n).high (pairs_of (f n)) found.0 cut found.1.0 found.1.1.0 found.1.1.1 in
    let own : In found.0 (own_branches f n) = subst (λ bs. In found.0 bs) (sym (own_at f n level at)) found.1.0 in
    let fits = child_fits f live tree n alive found.0 own in
    let low = fits.low in
    let high = fits.high in
    let start = found.1.1 in
    subst (λ c. Led f live pc (leaf_under f pc level c)) (sym child)
    (leads_to f live tree pc level found.0.child (child_live f live tree n alive found.0 own)
    (fits.level ∙ branch_level level (f n).low (pairs_of (f n)) found.0 found.1.0) (omega (arith, start.0)) (omega (arith, start.1)))

-- An entry stands in one leaf only.
pub one_leaf : (f : Contents) (live : ℕ → Bool) → IsTree f live → (x y : ℕ) → IsTrue (live x) → IsTrue (live y) → (m : Member) →
    In m (entries_of (f x)) → In m (entries_of (f y)) → x ≡ y
one_leaf f live tree x y alive also m held also_held =
    let ordered = entry_ordered (f x).low (f x).high (entries_of (f x)) m (leaf_says (f x) (f x).body (tree.ordered x alive) m held).1 held in
    let to_x = leads f live tree m.span.first (f 0).level 0 (root_live f live tree) refl x (live_node f live tree x alive) m held (omega arith) ordered in
    let to_y = leads f live tree m.span.first (f 0).level 0 (root_live f live tree) refl y (live_node f live tree y also) m also_held (omega arith) ordered in
    sym to_x.0 ∙ to_y.0

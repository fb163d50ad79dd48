-- How much a lawful tree holds.
use Rattle.std.proofs.Common.{◌≡◌, ◌≢◌, ℕ, zero, suc, ◌+◌, ◌-◌, ◌*◌, ◌^◌, ◌<◌, ◌≤◌, List, []}
use Rattle.std.proofs.Common.{◌∷◌, length, map, refl, ap, sym, ◌∙◌, subst, arith, Bool}
use Rattle.std.proofs.Common.{IsTrue, inl, inr}
use Rattle.std.specs.List.{flat_map}
use Rattle.std.proofs.lemmas.List.{length-append}
use Rattle.std.proofs.lemmas.List.Concat.{flat_map-append}
use Rattle.std.proofs.Math.Nat.{mul-le-mul_right, pow-suc}
use Rattle.tree_shape.specs.declared.pair.Pair.{Pair}
use Rattle.tree_laws.specs.Numbers.{times}
use Rattle.tree_shape.specs.NodeData.{NodeData, Body, Pairs, Entries, Link, entries_of, entries_in}
use Rattle.tree_shape.specs.NodeData.{pairs_of, pairs_in}
use Rattle.tree_laws.specs.Trees.{Contents, Branch, branches_from, branches, nodes_under}
use Rattle.tree_laws.specs.Trees.{nodes}
use Rattle.tree_laws.specs.Trees.{entries}
use Rattle.tree_laws.specs.Lawful.{IsTree, IsLawfulTree, IsOrderedAs, IsFilledAs, fewest_pairs}
use Rattle.tree_laws.specs.Lawful.{fewest_entries}
use Rattle.tree_laws.proofs.Times.{In}
use Rattle.tree_laws.proofs.Reach.{branch_level}
use Rattle.tree_laws.proofs.Living.{own_branches, leaf_has_none, own_at, live_node, root_live}
use Rattle.tree_laws.proofs.Living.{root_no_child, child_live, child_fits, own_child}
use Rattle.tree_laws.proofs.Halves.{fewest_below, fewest_pairs_some}
use Rattle.std.specs.Prelude.{◌⊎◌}
use Rattle.tree_shape.specs.declared.limits.TheConstants.{PAIRS, ENTRIES}
use Rattle.tree_laws.proofs.Times.{times_cases, times_flat_map}
use Rattle.tree_laws.proofs.Wholes.{held_by}

branch_count : (level low : ℕ) (pairs : List Pair) →
    length (branches_from level low pairs) ≡ length pairs
branch_count level low [] = refl
branch_count level low (p ∷ pairs) = ap suc (branch_count level (p.separator + 1) pairs)

leaf_entries : (n : ℕ) (s : NodeData) (b : Body) → IsOrderedAs s b → IsFilledAs n b → s.level ≡ 0 →
    fewest_entries n ≤ length (entries_in b)
leaf_entries n s (Pairs pairs) ordered filled at = absurd (omega arith)
leaf_entries n s (Entries es) ordered filled at = filled.0
leaf_entries n s (Link next) ordered filled at = absurd ordered

inner_pairs : (n : ℕ) (s : NodeData) (b : Body) → IsOrderedAs s b → IsFilledAs n b → 0 < s.level →
    fewest_pairs n ≤ length (pairs_in b)
inner_pairs n s (Pairs pairs) ordered filled above = filled.0
inner_pairs n s (Entries es) ordered filled above = absurd (omega arith)
inner_pairs n s (Link next) ordered filled above = absurd ordered

-- sums over branches
more_entries : {X : Type 0} (f : Contents) (under : X → List ℕ) (bs : List X) →
    ((b : X) → In b bs →
    length (under b) + length (under b) + 2 ≤ length (flat_map (held_by f) (under b))) →
    length (flat_map under bs) + length (flat_map under bs) + (length bs + length bs) ≤ length
    (flat_map (held_by f) (flat_map under bs))
more_entries f under [] each = omega arith
more_entries f under (b ∷ bs) each =
    let one = each b (inl refl) in
    let rest = more_entries f under bs (λ c there. each c (inr there)) in
    omega (
      arith,
      length-append (under b) (flat_map under bs),
      ap length (flat_map-append (held_by f) (under b) (flat_map under bs)),
      length-append (flat_map (held_by f) (under b)) (flat_map (held_by f) (flat_map under bs)),
    )

many : {X : Type 0} (m : ℕ) (under : X → List ℕ) (bs : List X) →
    ((b : X) → In b bs → m ≤ length (under b)) → length bs * m ≤ length (flat_map under bs)
many m under [] each = omega arith
many m under (b ∷ bs) each =
    let one = each b (inl refl) in
    let rest = many m under bs (λ c there. each c (inr there)) in
    omega (arith, length-append (under b) (flat_map under bs))

child_below : (f : Contents) (live : ℕ → Bool) → IsTree f live → (n level : ℕ) → IsTrue (live n) →
    (f n).level ≡ suc level → (b : Branch) → In b (branches level (f n)) →
    IsTrue (live b.child) × ((f b.child).level ≡ level) × (b.child ≢ 0)
child_below f live tree n level alive at b there =
    let own : In b (own_branches f n) = subst (λ bs. In b bs) (sym (own_at f n level at)) there in
    let fits = child_fits f live tree n alive b own in (
      child_live f live tree n alive b own,
      fits.level ∙ branch_level level (f n).low (pairs_of (f n)) b there,
      λ e. root_no_child f live tree n alive
          (subst (λ x. 0 < times x (map (λ (p : Pair). p.child) (pairs_of (f n)))) e
          (own_child f n b own)),
    )

twice_below : (f : Contents) (live : ℕ → Bool) → IsLawfulTree f live → (level n : ℕ) →
    IsTrue (live n) → (f n).level ≡ level → n ≢ 0 →
    length (nodes_under f level n) + length (nodes_under f level n) + 2 ≤ length
    (flat_map (held_by f) (nodes_under f level n))
twice_below f live lawful zero n alive at below =
    let some = leaf_entries n (f n) (f n).body (lawful.tree.ordered n alive) (lawful.filled n alive)
    at in
    omega (arith, some, (fewest_below n below).0, length-append (entries_of (f n)) [])
twice_below f live lawful (suc level) n alive at below =
    let some = inner_pairs n (f n) (f n).body (lawful.tree.ordered n alive) (lawful.filled n alive)
    (omega arith) in
    let sums = more_entries f (λ (b : Branch). nodes_under f level b.child) (branches level (f n))
    (λ b there.
    let child = child_below f live lawful.tree n level alive at b there in
    twice_below f live lawful level b.child child.0 child.1 child.2) in
    omega (
      arith,
      some,
      fewest_pairs_some n,
      sums,
      branch_count level (f n).low (pairs_of (f n)),
      length-append (entries_of (f n))
          (flat_map (held_by f) (flat_map (λ (b : Branch). nodes_under f level b.child)
          (branches level (f n)))),
    )

pub twice_as_many : (f : Contents) (live : ℕ → Bool) → IsLawfulTree f live → 2 ≤ length (nodes f) →
    2 * length (nodes f) ≤ length (entries f)
twice_as_many f live lawful two = at_level (f 0).level refl two
  where
    at_level : (level : ℕ) → (f 0).level ≡ level → 2 ≤ length (nodes_under f level 0) →
        2 * length (nodes_under f level 0) ≤ length (flat_map (held_by f) (nodes_under f level 0))
    at_level zero at two = absurd (omega arith)
    at_level (suc level) at two =
        let some =
        inner_pairs 0 (f 0) (f 0).body (lawful.tree.ordered 0 (root_live f live lawful.tree))
        (lawful.filled 0 (root_live f live lawful.tree)) (omega arith) in
        let sums = more_entries f (λ (b : Branch). nodes_under f level b.child)
        (branches level (f 0)) (λ b there.
        let child = child_below f live lawful.tree 0 level (root_live f live lawful.tree) at b there
        in
        twice_below f live lawful level b.child child.0 child.1 child.2) in
        omega (
          arith,
          some,
          sums,
          branch_count level (f 0).low (pairs_of (f 0)),
          length-append (entries_of (f 0))
              (flat_map (held_by f) (flat_map (λ (b : Branch). nodes_under f level b.child)
              (branches level (f 0)))),
        )

six_each : (f : Contents) (live : ℕ → Bool) → IsLawfulTree f live → (level n : ℕ) →
    IsTrue (live n) → (f n).level ≡ level → n ≢ 0 → 6 ^ level ≤ length (nodes_under f level n)
six_each f live lawful zero n alive at below = omega arith
six_each f live lawful (suc level) n alive at below =
    let some = inner_pairs n (f n) (f n).body (lawful.tree.ordered n alive) (lawful.filled n alive)
    (omega arith) in
    let six : 6 ≤ length (branches level (f n)) =
    omega (arith, some, (fewest_below n below).1, branch_count level (f n).low (pairs_of (f n)))
    in
    let sums = many (6 ^ level) (λ (b : Branch). nodes_under f level b.child) (branches level (f n))
    (λ b there.
    let child = child_below f live lawful.tree n level alive at b there in
    six_each f live lawful level b.child child.0 child.1 child.2) in
    let product : 6 * 6 ^ level ≤ length (branches level (f n)) * 6 ^ level =
    mul-le-mul_right (6 ^ level) six in
    omega (arith, product, sums, pow-suc 6 level)

pub tall_is_large : (f : Contents) (live : ℕ → Bool) → IsLawfulTree f live → (f 0).level ≡ 12 →
    16384 < length (nodes f)
tall_is_large f live lawful at =
    let level = (f 0).level - 1 in
    let up : (f 0).level ≡ suc level = omega arith in
    let some = inner_pairs 0 (f 0) (f 0).body (lawful.tree.ordered 0 (root_live f live lawful.tree))
    (lawful.filled 0 (root_live f live lawful.tree)) (omega arith) in
    let two : 2 ≤ length (branches level (f 0)) =
    omega (arith, some, branch_count level (f 0).low (pairs_of (f 0))) in
    let sums = many (6 ^ level) (λ (b : Branch). nodes_under f level b.child) (branches level (f 0))
    (λ b there.
    let child = child_below f live lawful.tree 0 level (root_live f live lawful.tree) up b there in
    six_each f live lawful level b.child child.0 child.1 child.2) in
    let product : 2 * 6 ^ level ≤ length (branches level (f 0)) * 6 ^ level =
    mul-le-mul_right (6 ^ level) two in
    let eleven : level ≡ 11 = omega arith in
    let power : 6 ^ level ≡ 362797056 = ap (λ l. 6 ^ l) eleven in
    let whole : length
    (nodes f) ≡ suc (length (flat_map (λ (b : Branch). nodes_under f level b.child)
    (branches level (f 0)))) = ap (λ l. length (nodes_under f l 0)) up in
    omega (arith, product, sums)

-- A full node below a node: its entries are at most those below it.
entries_of_part : {X : Type 0} (f : Contents) (under : X → List ℕ) (bs : List X) (b : X) → In b bs →
    length (flat_map (held_by f) (under b)) ≤ length (flat_map (held_by f) (flat_map under bs))
entries_of_part f under [] b there = absurd there
entries_of_part f under (c ∷ bs) b there =
    let whole = ap length (flat_map-append (held_by f) (under c) (flat_map under bs)) in
    let sum = length-append (flat_map (held_by f) (under c))
    (flat_map (held_by f) (flat_map under bs)) in
    elim there [
      | inl e ↦
          let same : length (flat_map (held_by f) (under c)) ≡ length
          (flat_map (held_by f) (under b)) =
          ap (λ x. length (flat_map (held_by f) (under x))) e in
          omega arith
      | inr later ↦ omega (arith, entries_of_part f under bs b later)
    ]

-- how many entries stand below a node, by a level
abbrev held_below : Contents → ℕ → ℕ → ℕ
held_below f level n = length (flat_map (held_by f) (nodes_under f level n))

same_below : (f : Contents) (level n m : ℕ) → n ≡ m → (f m).level ≡ level →
    held_below f (f n).level n ≡ held_below f level m
same_below f level n m e at = ap (λ x. held_below f (f x).level x) e ∙ ap (λ l. held_below f l m) at

entries_below_node : (f : Contents) (live : ℕ → Bool) → IsTree f live → (level m : ℕ) →
    IsTrue (live m) → (f m).level ≡ level → (n : ℕ) → 0 < times n (nodes_under f level m) →
    held_below f (f n).level n ≤ held_below f level m
entries_below_node f live tree zero m alive at n there = elim (times_cases n m [] there) [
  | inl e ↦ omega (arith, same_below f zero n m e at)
  | inr none ↦ absurd (omega arith)
]
entries_below_node f live tree (suc level) m alive at n there =
    let under : Branch → List ℕ = λ b. nodes_under f level b.child in
    elim (times_cases n m (flat_map under (branches level (f m))) there) [
      | inl e ↦ omega (arith, same_below f (suc level) n m e at)
      | inr later ↦
          let found = times_flat_map under (branches level (f m)) n later in
          let child = child_below f live tree m level alive at found.0 found.1.0 in
          let below = entries_below_node f live tree level found.0.child child.0 child.1 n found.1.1
          in
          let part = entries_of_part f under (branches level (f m)) found.0 found.1.0 in
          let whole = length-append (entries_of (f m))
          (flat_map (held_by f) (flat_map under (branches level (f m)))) in
          omega arith
    ]

-- a node of pairs holds twice as many entries below it
pairs_below : (f : Contents) (live : ℕ → Bool) → IsLawfulTree f live → (level n : ℕ) →
    IsTrue (live n) → (f n).level ≡ level →
    length (pairs_of (f n)) + length (pairs_of (f n)) ≤ held_below f level n
pairs_below f live lawful zero n alive at =
    let none : length (pairs_of (f n)) ≡ 0 =
    ap length (leaf_has_none (f n) (f n).body (lawful.tree.ordered n alive) at) in
    omega arith
pairs_below f live lawful (suc level) n alive at =
    let under : Branch → List ℕ = λ b. nodes_under f level b.child in
    let sums = more_entries f under (branches level (f n)) (λ b there.
    let child = child_below f live lawful.tree n level alive at b there in
    twice_below f live lawful level b.child child.0 child.1 child.2) in
    omega (
      arith,
      sums,
      branch_count level (f n).low (pairs_of (f n)),
      length-append (entries_of (f n))
          (flat_map (held_by f) (flat_map under (branches level (f n)))),
    )

own_below : (f : Contents) (level n : ℕ) → length (entries_of (f n)) ≤ held_below f level n
own_below f zero n = omega (arith, length-append (entries_of (f n)) [])
own_below f (suc level) n =
    let below = flat_map (λ (b : Branch). nodes_under f level b.child) (branches level (f n)) in
    omega (arith, length-append (entries_of (f n)) (flat_map (held_by f) below))

-- a tree with a full node has as many entries as a full leaf
pub full_members : (f : Contents) (live : ℕ → Bool) (n : ℕ) → IsLawfulTree f live →
    IsTrue (live n) →
    (PAIRS ≤ length (pairs_of (f n))) ⊎ (ENTRIES ≤ length (entries_of (f n))) →
    ENTRIES ≤ length (entries f)
full_members f live n lawful alive full =
    let root = root_live f live lawful.tree in
    let below = entries_below_node f live lawful.tree (f 0).level 0 root refl n
    (live_node f live lawful.tree n alive) in
    elim full [
      | inl pairs ↦ omega (arith, pairs_below f live lawful (f n).level n alive refl)
      | inr own ↦ omega (arith, own_below f (f n).level n)
    ]

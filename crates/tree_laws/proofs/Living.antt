-- What a tree tree says of its live nodes: their children are live, and each has one parent at most.
use Rattle.std.proofs.Common.{◌≡◌, ◌≢◌, ℕ, zero, suc, ◌+◌, ◌-◌, ◌<◌, ◌≤◌, List, [], ◌∷◌, ◌++◌, map}
use Rattle.std.proofs.Common.{refl, ap, sym, ◌∙◌, subst, arith, Bool, true, false, IsTrue, eqb, inl, inr}
use Rattle.std.proofs.Common.{◌⊎◌}
use Rattle.std.specs.List.{flat_map, AllByRecursion}
use Rattle.std.proofs.lemmas.Bool.{cases_eq, cases_Bool}
use Rattle.std.proofs.lemmas.List.Concat.{flat_map-append}
use Rattle.tree_shape.specs.declared.pair.Pair.{Pair}
use Rattle.tree_laws.specs.Numbers.{times, once}
use Rattle.tree_shape.specs.NodeData.{NodeData, Body, Pairs, Entries, Link, pairs_of, pairs_in}
use Rattle.tree_laws.specs.Trees.{Contents, Branch, branch, branches_from, branches, nodes_under}
use Rattle.tree_laws.specs.Trees.{nodes, within, leaving}
use Rattle.tree_laws.specs.Lawful.{IsTree, IsOrdered, IsOrderedAs, FitsParent}
use Rattle.tree_laws.proofs.Times.{In, all_at, all_from, once_same, once_true, once_from}
use Rattle.tree_laws.proofs.Times.{once_most}
use Rattle.tree_laws.proofs.Times.{times-append, times_head, times_cases, times_flat_map}
use Rattle.tree_laws.proofs.Times.{times_flat_map_from, times_under, times_two, in_flat_map}
use Rattle.tree_laws.proofs.Times.{in_flat_map_from}
use Rattle.tree_laws.proofs.Reach.{children, branch_level, branch_child, onward, outward}
use Rattle.tree_laws.proofs.Reach.{onward_in, onward_from, outward_in, outward_inside}
use Rattle.tree_laws.proofs.Reach.{outward_outside, within_under, within_top, under_top}
use Rattle.tree_laws.proofs.Reach.{under_within}

-- the children that a node of the tree has by its own level
abbrev pub own_branches : Contents → ℕ → List Branch
own_branches f n = branches ((f n).level - 1) (f n)

-- a node of level 0 has no pairs, and one without pairs has level 0
pub leaf_has_none : (s : NodeData) (b : Body) → IsOrderedAs s b → s.level ≡ 0 → pairs_in b ≡ []
leaf_has_none s (Pairs pairs) ordered level = absurd (omega arith)
leaf_has_none s (Entries entries) ordered level = refl
leaf_has_none s (Link next) ordered level = refl

pub no_branches : (s : NodeData) (k : ℕ) (b : Branch) → IsOrdered s → s.level ≡ 0 → In b (branches k s) → ⊥
no_branches s k b ordered level there =
    let none : pairs_of s ≡ [] = leaf_has_none s s.body ordered level in
    subst (λ pairs. In b (branches_from k s.low pairs)) none there

-- by its own level a node above level 0 has the branches that its level asks for
pub own_at : (f : Contents) (n k : ℕ) → (f n).level ≡ suc k → own_branches f n ≡ branches k (f n)
own_at f n k level = let e : (f n).level - 1 ≡ k = omega arith in ap (λ l. branches l (f n)) e

-- What is said of contents below a node n: each node that is reached is ordered, and each of its children is as named.
pub record Sound (set : ℕ → Bool) (f : Contents) (level n : ℕ) : Type 0 where
  pub ordered : (x : ℕ) → 0 < times x (within set f level n) → IsOrdered (f x)
  pub fitting : (x : ℕ) → 0 < times x (within set f level n) → (b : Branch) →
      In b (own_branches f x) → IsTrue (set b.child) → FitsParent f b

-- the same below a child
pub sound_below : (set : ℕ → Bool) (f : Contents) (level n : ℕ) (b : Branch) → Sound set f (suc level) n → In b (branches level (f n)) → IsTrue (set b.child) →
    Sound set f level b.child
sound_below set f level n b sound there inside =
    let up : (x : ℕ) → 0 < times x (within set f level b.child) → 0 < times x (within set f (suc level) n) =
    λ x at.
    let brought = onward_from set f x level b inside in
    let whole = times_flat_map_from (onward set f level) (branches level (f n)) b x there in
    omega arith in
    record {
      ordered = λ x at. sound.ordered x (up x at);
      fitting = λ x at. sound.fitting x (up x at);
    }

-- the level of a child
pub child_level : (set : ℕ → Bool) (f : Contents) (level n : ℕ) (b : Branch) → Sound set f (suc level) n → (f n).level ≡ suc level → In b (branches level (f n)) → IsTrue (set b.child) →
    (f b.child).level ≡ level
child_level set f level n b sound at there inside =
    let own : In b (own_branches f n) = subst (λ bs. In b bs) (sym (own_at f n level at)) there in
    let fits = sound.fitting n (times_head n (flat_map (onward set f level) (branches level (f n)))) b own inside in
    fits.level ∙ branch_level level (f n).low (pairs_of (f n)) b there

-- a branch of a reached node leads on inside the set, or leaves it
pub goes_on : (set : ℕ → Bool) (f : Contents) (level n : ℕ) → Sound set f level n → (f n).level ≡ level →
    (x : ℕ) → 0 < times x (within set f level n) → (b : Branch) → In b (own_branches f x) →
    (IsTrue (set b.child) × (0 < times b.child (within set f level n))) ⊎ ((set b.child ≡ false) × In b (leaving set f level n))
goes_on set f zero n sound at x there b own = elim (times_cases x n [] there) [
  | inl e ↦ absurd (no_branches (f n) ((f n).level - 1) b (sound.ordered n (times_head n [])) at (subst (λ z. In b (own_branches f z)) e own))
  | inr none ↦ absurd (omega arith)
]
goes_on set f (suc level) n sound at x there b own =
    elim (times_cases x n (flat_map (onward set f level) (branches level (f n))) there) [
      | inl e ↦
          let here : In b (branches level (f n)) = subst (λ bs. In b bs) (own_at f n level at) (subst (λ z. In b (own_branches f z)) e own) in
          elim (cases_Bool (set b.child)) [
            | inl inside ↦
                let brought = onward_from set f b.child level b inside in
                let whole = times_flat_map_from (onward set f level) (branches level (f n)) b b.child here in
                let first = within_top set f level b.child in
                inl (inside, omega arith)
            | inr outside ↦ inr (outside, in_flat_map_from (outward set f level) (branches level (f n)) b b here (outward_outside set f level b outside))
          ]
      | inr later ↦
          let found = times_flat_map (onward set f level) (branches level (f n)) x later in
          let step = onward_in set f x level found.0 found.1.1 in
          let next = goes_on set f level found.0.child (sound_below set f level n found.0 sound found.1.0 step.0)
          (child_level set f level n found.0 sound at found.1.0 step.0) x step.1 b own in
          elim next [
            | inl on ↦
                let brought = onward_from set f b.child level found.0 step.0 in
                let whole = times_flat_map_from (onward set f level) (branches level (f n)) found.0 b.child found.1.0 in
                let inside = on.1 in
                inl (on.0, omega arith)
            | inr out ↦ inr (out.0, in_flat_map_from (outward set f level) (branches level (f n)) found.0 b found.1.0 (outward_inside set f level found.0 b step.0 out.1))
          ]
    ]

-- a branch that leaves the set is a branch of a node that is reached
pub leaves_from : (set : ℕ → Bool) (f : Contents) (level n : ℕ) → Sound set f level n → (f n).level ≡ level →
    (b : Branch) → In b (leaving set f level n) → (set b.child ≡ false) × ((y : ℕ) × ((0 < times y (within set f level n)) × In b (own_branches f y)))
leaves_from set f zero n sound at b there = absurd there
leaves_from set f (suc level) n sound at b there =
    let found = in_flat_map (outward set f level) (branches level (f n)) b there in
    elim (outward_in set f level found.0 b found.1.1) [
      | inl on ↦
          let deeper = leaves_from set f level found.0.child (sound_below set f level n found.0 sound found.1.0 on.0)
          (child_level set f level n found.0 sound at found.1.0 on.0) b on.1 in
          let brought = onward_from set f deeper.1.0 level found.0 on.0 in
          let whole = times_flat_map_from (onward set f level) (branches level (f n)) found.0 deeper.1.0 found.1.0 in
          let at' = deeper.1.1.0 in
          (deeper.0, (deeper.1.0, (omega arith, deeper.1.1.1)))
      | inr out ↦ (
        subst (λ (x : Branch). set x.child ≡ false) out.1 out.0,
        (
          n,
          (
            times_head n (flat_map (onward set f level) (branches level (f n))),
            subst (λ bs. In b bs) (sym (own_at f n level at)) (subst (λ x. In x (branches level (f n))) out.1 found.1.0),
          ),
        ),
      )
    ]

-- Each number is reached as often as it is a child of what is reached, and the first node once more.
parents_of_pairs : (f : Contents) (x level : ℕ) (low : ℕ) (pairs : List Pair) →
    ((b : Branch) → In b (branches_from level low pairs) → times x (nodes_under f level b.child) ≡ once (eqb x b.child) + times x (flat_map (children f) (nodes_under f level b.child))) →
    times x (flat_map (λ b. nodes_under f level b.child) (branches_from level low pairs))
    ≡ times x (map (λ (p : Pair). p.child) pairs) + times x (flat_map (children f) (flat_map (λ b. nodes_under f level b.child) (branches_from level low pairs)))
parents_of_pairs f x level low [] each = omega arith
parents_of_pairs f x level low (p ∷ pairs) each =
    let rest = parents_of_pairs f x level (p.separator + 1) pairs (λ b there. each b (inr there)) in
    let one = each (branch p.child level low p.separator) (inl refl) in
    let tail = flat_map (λ (b : Branch). nodes_under f level b.child) (branches_from level (p.separator + 1) pairs) in
    omega (
      arith,
      times-append x (nodes_under f level p.child) tail,
      ap (times x) (flat_map-append (children f) (nodes_under f level p.child) tail),
      times-append x (flat_map (children f) (nodes_under f level p.child)) (flat_map (children f) tail),
    )

-- the nodes of a tree tree are its live nodes
pub live_node : (f : Contents) (live : ℕ → Bool) → IsTree f live → (n : ℕ) → IsTrue (live n) → 0 < times n (nodes f)
live_node f live tree n alive = omega (arith, tree.reached n, once_from (live n) alive)

pub node_live : (f : Contents) (live : ℕ → Bool) → IsTree f live → (n : ℕ) → 0 < times n (nodes f) → IsTrue (live n)
node_live f live tree n there = once_true (live n) (omega (arith, tree.reached n))

pub one_way : (f : Contents) (live : ℕ → Bool) → IsTree f live → (n : ℕ) → times n (nodes f) ≤ 1
one_way f live tree n = omega (arith, tree.reached n, once_most (live n))

pub root_live : (f : Contents) (live : ℕ → Bool) → IsTree f live → IsTrue (live 0)
root_live f live tree = node_live f live tree 0 (under_top f (f 0).level 0)

pub sound_whole : (f : Contents) (live : ℕ → Bool) → IsTree f live → Sound (λ _. true) f (f 0).level 0
sound_whole f live tree =
    let alive : (x : ℕ) → 0 < times x (within (λ _. true) f (f 0).level 0) → IsTrue (live x) =
    λ x there. node_live f live tree x (omega (arith, within_under (λ _. true) f x (f 0).level 0)) in
    record {
      ordered = λ x there. tree.ordered x (alive x there);
      fitting = λ x there b own inside. all_at (FitsParent f) (own_branches f x) b
          (tree.fitting x (alive x there)) own;
    }

-- a child of a live node is live, and is as its parent names it
pub child_live : (f : Contents) (live : ℕ → Bool) → IsTree f live → (n : ℕ) → IsTrue (live n) → (b : Branch) → In b (own_branches f n) → IsTrue (live b.child)
child_live f live tree n alive b own =
    let there : 0 < times n (within (λ _. true) f (f 0).level 0) = subst (λ l. 0 < times n l) (under_within f (f 0).level 0) (live_node f live tree n alive) in
    elim (goes_on (λ _. true) f (f 0).level 0 (sound_whole f live tree) refl n there b own) [
      | inl on ↦ node_live f live tree b.child (omega (arith, on.1, within_under (λ _. true) f b.child (f 0).level 0))
      | inr out ↦ absurd (cc (out.0))
    ]

pub child_fits : (f : Contents) (live : ℕ → Bool) → IsTree f live → (n : ℕ) → IsTrue (live n) →
    (b : Branch) → In b (own_branches f n) → FitsParent f b
child_fits f live tree n alive b own = all_at (FitsParent f) (own_branches f n) b
    (tree.fitting n alive) own

-- what a live node reaches is live
pub live_within : (f : Contents) (live : ℕ → Bool) → IsTree f live → (set : ℕ → Bool) (level n : ℕ) → IsTrue (live n) → (f n).level ≡ level →
    (x : ℕ) → 0 < times x (within set f level n) → IsTrue (live x)
live_within f live tree set zero n alive at x there = elim (times_cases x n [] there) [
  | inl e ↦ subst (λ z. IsTrue (live z)) (sym e) alive
  | inr none ↦ absurd (omega arith)
]
live_within f live tree set (suc level) n alive at x there = elim (times_cases x n (flat_map (onward set f level) (branches level (f n))) there) [
  | inl e ↦ subst (λ z. IsTrue (live z)) (sym e) alive
  | inr later ↦
      let found = times_flat_map (onward set f level) (branches level (f n)) x later in
      let step = onward_in set f x level found.0 found.1.1 in
      let own : In found.0 (own_branches f n) = subst (λ bs. In found.0 bs) (sym (own_at f n level at)) found.1.0 in
      let fits = child_fits f live tree n alive found.0 own in
      live_within f live tree set level found.0.child (child_live f live tree n alive found.0 own)
      (fits.level ∙ branch_level level (f n).low (pairs_of (f n)) found.0 found.1.0) x step.1
]

pub live_under : (f : Contents) (live : ℕ → Bool) → IsTree f live → (level n : ℕ) → IsTrue (live n) → (f n).level ≡ level →
    (x : ℕ) → 0 < times x (nodes_under f level n) → IsTrue (live x)
live_under f live tree level n alive at x there =
    live_within f live tree (λ _. true) level n alive at x (subst (λ l. 0 < times x l) (under_within f level n) there)

-- so what lies below a live node is sound
pub sound_at : (f : Contents) (live : ℕ → Bool) → IsTree f live → (set : ℕ → Bool) (level n : ℕ) → IsTrue (live n) → (f n).level ≡ level → Sound set f level n
sound_at f live tree set level n alive at = record {
  ordered = λ x there. tree.ordered x (live_within f live tree set level n alive at x there);
  fitting = λ x there b own inside. child_fits f live tree x (live_within f live tree set level n alive at x there) b own;
}

-- each node below a live one, but it, is a child of exactly one of them
pub parents : (f : Contents) (live : ℕ → Bool) → IsTree f live → (x level n : ℕ) → IsTrue (live n) → (f n).level ≡ level →
    times x (nodes_under f level n) ≡ once (eqb x n) + times x (flat_map (children f) (nodes_under f level n))
parents f live tree x zero n alive at =
    let none : children f n ≡ [] = ap (map (λ (p : Pair). p.child)) (leaf_has_none (f n) (f n).body (tree.ordered n alive) at) in
    let brought : times x (children f n ++ []) ≡ 0 = ap (λ l. times x (l ++ [])) none in
    omega arith
parents f live tree x (suc level) n alive at =
    let each : (b : Branch) → In b (branches level (f n)) → times x (nodes_under f level b.child) ≡ once (eqb x b.child) + times x (flat_map (children f) (nodes_under f level b.child)) =
    λ b there.
    let own : In b (own_branches f n) = subst (λ bs. In b bs) (sym (own_at f n level at)) there in
    let fits = child_fits f live tree n alive b own in
    parents f live tree x level b.child (child_live f live tree n alive b own) (fits.level ∙ branch_level level (f n).low (pairs_of (f n)) b there) in
    let sum = parents_of_pairs f x level (f n).low (pairs_of (f n)) each in
    let split = times-append x (children f n) (flat_map (children f) (flat_map (λ (b : Branch). nodes_under f level b.child) (branches level (f n)))) in
    omega arith

-- the root is no child
pub root_no_child : (f : Contents) (live : ℕ → Bool) → IsTree f live → (n : ℕ) → IsTrue (live n) → 0 < times 0 (children f n) → ⊥
root_no_child f live tree n alive there =
    let sum = parents f live tree 0 (f 0).level 0 (root_live f live tree) refl in
    let brought = times_under (children f) (nodes f) n 0 (live_node f live tree n alive) in
    omega (arith, one_way f live tree 0, once_same 0)

-- no node is a child of two
pub one_parent : (f : Contents) (live : ℕ → Bool) → IsTree f live → (x y n : ℕ) → IsTrue (live x) → IsTrue (live y) →
    0 < times n (children f x) → 0 < times n (children f y) → x ≡ y
one_parent f live tree x y n alive also there at =
    elim (cases_eq x y) [
      | inl e ↦ e
      | inr other ↦
          let sum = parents f live tree n (f 0).level 0 (root_live f live tree) refl in
          let two = times_two (children f) (nodes f) x y n (live_node f live tree x alive) (live_node f live tree y also) other in
          absurd (omega (arith, one_way f live tree n))
    ]

-- a child by a branch is a child
pub own_child : (f : Contents) (n : ℕ) (b : Branch) → In b (own_branches f n) → 0 < times b.child (children f n)
own_child f n b own = branch_child ((f n).level - 1) (f n).low (pairs_of (f n)) b own

-- the children of a live node
pub live_children : (f : Contents) (live : ℕ → Bool) (n : ℕ) → IsTree f live → IsTrue (live n) →
    AllByRecursion (λ b. IsTrue (live b.child) × FitsParent f b) (own_branches f n)
live_children f live n tree alive =
    all_from (λ b. IsTrue (live b.child) × FitsParent f b) (own_branches f n)
    (λ b own. (child_live f live tree n alive b own, child_fits f live tree n alive b own))

-- the root is none of them
pub never_root : (f : Contents) (live : ℕ → Bool) (n : ℕ) → IsTree f live → IsTrue (live n) →
    AllByRecursion (λ b. b.child ≢ 0) (own_branches f n)
never_root f live n tree alive =
    all_from (λ b. b.child ≢ 0) (own_branches f n)
    (λ b own e. root_no_child f live tree n alive
    (subst (λ x. 0 < times x (children f n)) e (own_child f n b own)))

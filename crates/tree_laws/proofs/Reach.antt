-- What a node reaches, by all ways and by ways inside a set. Nothing here asks for a lawful tree.
use Rattle.std.proofs.Common.{◌≡◌, ◌≢◌, ℕ, zero, suc, ◌+◌, ◌<◌, ◌≤◌, List, [], ◌∷◌, refl, ap, sym}
use Rattle.std.proofs.Common.{◌∙◌, subst, arith, Bool, true, false, cond, IsTrue, map, inl, inr}
use Rattle.std.proofs.Common.{◌⊎◌}
use Rattle.std.specs.List.{flat_map}
use Rattle.std.proofs.lemmas.Bool.{cases_eq}
use Rattle.std.proofs.lemmas.List.Concat.{flat_map-append}
use Rattle.tree_shape.specs.declared.pair.Pair.{Pair}
use Rattle.tree_laws.specs.Numbers.{times}
use Rattle.tree_shape.specs.NodeData.{pairs_of}
use Rattle.tree_laws.specs.Trees.{Contents, Branch, branch, branches_from, branches, nodes_under}
use Rattle.tree_laws.specs.Trees.{within, leaving}
use Rattle.tree_laws.proofs.Times.{In, times-append, times_head, times_cases, times_flat_map}
use Rattle.tree_laws.proofs.Times.{times_flat_map_from, flat_map_same}

-- a branch has the level that was asked for, and its child is one of the pairs'
pub branch_level : (level low : ℕ) (pairs : List Pair) (b : Branch) →
    In b (branches_from level low pairs) → b.frame.level ≡ level
branch_level level low [] b there = absurd there
branch_level level low (p ∷ pairs) b there =
    elim there [
      | inl e ↦ sym (ap (λ (x : Branch). x.frame.level) e)
      | inr later ↦ branch_level level
          (p.separator + 1) pairs b later
    ]

-- the children of a node
abbrev pub children : Contents → ℕ → List ℕ
children f n = map (λ (p : Pair). p.child) (pairs_of (f n))

pub branch_child : (level low : ℕ) (pairs : List Pair) (b : Branch) → In b (branches_from level low pairs) → 0 < times b.child (map (λ (p : Pair). p.child) pairs)
branch_child level low [] b there = absurd there
branch_child level low (p ∷ pairs) b there = elim there [
  | inl e ↦ subst (λ (x : Branch). 0 < times x.child (p.child ∷ map (λ (p : Pair). p.child) pairs)) e (times_head p.child (map (λ (p : Pair). p.child) pairs))
  | inr later ↦ omega (arith, branch_child level (p.separator + 1) pairs b later)
]

-- two choices that agree where the test is true
pub same_cond : {A : Type 0} (v : Bool) (x y z : A) → (IsTrue v → x ≡ y) → cond v x z ≡ cond v y z
same_cond v x y z agree = elim v as (λ v. (IsTrue v → x ≡ y) → cond v x z ≡ cond v y z) [ true ↦ λ h. h refl | false ↦ λ h. refl ] agree

-- what a branch brings to the ways inside a set, and to those that leave it
abbrev pub onward : (ℕ → Bool) → Contents → ℕ → Branch → List ℕ
onward set f level b = cond (set b.child) (within set f level b.child) []

abbrev pub outward : (ℕ → Bool) → Contents → ℕ → Branch → List Branch
outward set f level b = cond (set b.child) (leaving set f level b.child) (b ∷ [])

-- all that is reached below a branch
abbrev pub below : Contents → Branch → List ℕ
below f b = nodes_under f b.frame.level b.child

-- What is reached by all ways is what is reached by ways inside a set, and all below the branches by which these leave it.
parts_of_pairs : (set : ℕ → Bool) (f : Contents) (x level : ℕ) →
    ((n : ℕ) → times x (nodes_under f level n) ≡ times x (within set f level n) + times x (flat_map (below f) (leaving set f level n))) →
    (low : ℕ) (pairs : List Pair) →
    times x (flat_map (λ b. nodes_under f level b.child) (branches_from level low pairs))
    ≡ times x (flat_map (onward set f level) (branches_from level low pairs)) + times x (flat_map (below f) (flat_map (outward set f level) (branches_from level low pairs)))
parts_of_pairs set f x level each low [] = omega arith
parts_of_pairs set f x level each low (p ∷ pairs) =
    let b : Branch = branch p.child level low p.separator in
    let rest = parts_of_pairs set f x level each (p.separator + 1) pairs in
    let tail = branches_from level (p.separator + 1) pairs in
    let one : times x (nodes_under f level p.child) ≡ times x (onward set f level b) + times x (flat_map (below f) (outward set f level b)) =
    elim (set p.child) as (λ v. times x (nodes_under f level p.child) ≡ times x (cond v (within set f level p.child) []) + times x (flat_map (below f) (cond v (leaving set f level p.child) (b ∷ [])))) [
      | true ↦ each p.child
      | false ↦ omega (arith, times-append x (nodes_under f level p.child) [])
    ] in
    let parts = flat_map-append (below f) (outward set f level b) (flat_map (outward set f level) tail) in
    omega (
      arith,
      times-append x (nodes_under f level p.child) (flat_map (λ b. nodes_under f level b.child) tail),
      times-append x (onward set f level b) (flat_map (onward set f level) tail),
      ap (times x) parts,
      times-append x (flat_map (below f) (outward set f level b)) (flat_map (below f) (flat_map (outward set f level) tail)),
    )

pub reached_parts : (set : ℕ → Bool) (f : Contents) (x level n : ℕ) →
    times x (nodes_under f level n) ≡ times x (within set f level n) + times x (flat_map (below f) (leaving set f level n))
reached_parts set f x zero n = omega arith
reached_parts set f x (suc level) n =
    let under = parts_of_pairs set f x level (λ m. reached_parts set f x level m) (f n).low (pairs_of (f n)) in
    omega arith

pub onward_in : (set : ℕ → Bool) (f : Contents) (x level : ℕ) (b : Branch) → 0 < times x (onward set f level b) →
    IsTrue (set b.child) × (0 < times x (within set f level b.child))
onward_in set f x level b some =
    elim (set b.child) as (λ v. 0 < times x (cond v (within set f level b.child) []) → IsTrue v × (0 < times x (within set f level b.child))) [
      | true ↦ λ there. (refl, there)
      | false ↦ λ there. absurd (omega arith)
    ] some

pub onward_from : (set : ℕ → Bool) (f : Contents) (x level : ℕ) (b : Branch) → IsTrue (set b.child) → times x (onward set f level b) ≡ times x (within set f level b.child)
onward_from set f x level b inside = ap (λ v. times x (cond v (within set f level b.child) [])) inside

pub outward_in : (set : ℕ → Bool) (f : Contents) (level : ℕ) (b out : Branch) → In out (outward set f level b) →
    (IsTrue (set b.child) × In out (leaving set f level b.child)) ⊎ ((set b.child ≡ false) × (b ≡ out))
outward_in set f level b out there =
    elim (set b.child) as (λ v. In out (cond v (leaving set f level b.child) (b ∷ [])) → (IsTrue v × In out (leaving set f level b.child)) ⊎ ((v ≡ false) × (b ≡ out))) [
      | true ↦ λ h. inl (refl, h)
      | false ↦ λ h. elim h [ inl e ↦ inr (refl, e) | inr none ↦ absurd none ]
    ] there

pub outward_inside : (set : ℕ → Bool) (f : Contents) (level : ℕ) (b out : Branch) → IsTrue (set b.child) → In out (leaving set f level b.child) → In out (outward set f level b)
outward_inside set f level b out inside there = subst (λ v. In out (cond v (leaving set f level b.child) (b ∷ []))) (sym inside) there

pub outward_outside : (set : ℕ → Bool) (f : Contents) (level : ℕ) (b : Branch) → set b.child ≡ false → In b (outward set f level b)
outward_outside set f level b outside = subst (λ v. In b (cond v (leaving set f level b.child) (b ∷ []))) (sym outside) (inl refl)

-- ways inside a set reach the first node and else only nodes of the set
pub within_set : (set : ℕ → Bool) (f : Contents) (x level n : ℕ) → 0 < times x (within set f level n) → (x ≡ n) ⊎ IsTrue (set x)
within_set set f x zero n there = elim (times_cases x n [] there) [ inl e ↦ inl e | inr none ↦ absurd (omega arith) ]
within_set set f x (suc level) n there = elim (times_cases x n _ there) [
  | inl e ↦ inl e
  | inr later ↦
      let found = times_flat_map (onward set f level) (branches level (f n)) x later in
      let step = onward_in set f x level found.0 found.1.1 in
      elim (within_set set f x level found.0.child step.1) [ inl e ↦ inr (subst (λ z. IsTrue (set z)) (sym e) step.0) | inr inside ↦ inr inside ]
]

-- the first node is reached
pub within_top : (set : ℕ → Bool) (f : Contents) (level n : ℕ) → 0 < times n (within set f level n)
within_top set f zero n = times_head n []
within_top set f (suc level) n = times_head n (flat_map (onward set f level) (branches level (f n)))

pub under_top : (f : Contents) (level n : ℕ) → 0 < times n (nodes_under f level n)
under_top f zero n = times_head n []
under_top f (suc level) n = times_head n (flat_map (λ b. nodes_under f level b.child) (branches level (f n)))

-- what is reached by ways inside a set is reached
pub within_under : (set : ℕ → Bool) (f : Contents) (x level n : ℕ) → times x (within set f level n) ≤ times x (nodes_under f level n)
within_under set f x level n = omega (arith, reached_parts set f x level n)

-- a node reached by ways inside a set, but the first, is a child of another one
pub within_parent : (set : ℕ → Bool) (f : Contents) (x level n : ℕ) → 0 < times x (within set f level n) → x ≢ n →
    (y : ℕ) × ((0 < times y (within set f level n)) × (0 < times x (children f y)))
within_parent set f x zero n there other = elim (times_cases x n [] there) [ inl e ↦ absurd (other e) | inr none ↦ absurd (omega arith) ]
within_parent set f x (suc level) n there other = elim (times_cases x n _ there) [
  | inl e ↦ absurd (other e)
  | inr later ↦
      let found = times_flat_map (onward set f level) (branches level (f n)) x later in
      let step = onward_in set f x level found.0 found.1.1 in
      elim (cases_eq x found.0.child) [
        | inl e ↦ (
          n,
          (
            times_head n (flat_map (onward set f level) (branches level (f n))),
            subst (λ z. 0 < times z (children f n)) (sym e) (branch_child level (f n).low (pairs_of (f n)) found.0 found.1.0),
          ),
        )
        | inr deeper ↦
            let parent = within_parent set f x level found.0.child step.1 deeper in
            let brought = onward_from set f parent.0 level found.0 step.0 in
            let whole = times_flat_map_from (onward set f level) (branches level (f n)) found.0 parent.0 found.1.0 in
            let once' = parent.1.0 in
            (parent.0, (omega arith, parent.1.1))
      ]
]

-- Contents that agree on what one of them reaches by ways inside a set reach the same and leave by the same branches.
pub same_within : (set : ℕ → Bool) (f g : Contents) (level n : ℕ) → ((x : ℕ) → 0 < times x (within set f level n) → g x ≡ f x) →
    (within set g level n ≡ within set f level n) × (leaving set g level n ≡ leaving set f level n)
same_within set f g zero n agree = (refl, refl)
same_within set f g (suc level) n agree =
    let here : g n ≡ f n = agree n (times_head n (flat_map (onward set f level) (branches level (f n)))) in
    let below' : (b : Branch) → In b (branches level (f n)) → IsTrue (set b.child) → (x : ℕ) → 0 < times x (within set f level b.child) → g x ≡ f x =
    λ b there inside x at.
    let brought = onward_from set f x level b inside in
    let whole = times_flat_map_from (onward set f level) (branches level (f n)) b x there in
    let more = times-append x (n ∷ []) (flat_map (onward set f level) (branches level (f n))) in
    agree x (omega arith) in
    let nodes_same : flat_map (onward set g level) (branches level (g n)) ≡ flat_map (onward set f level) (branches level (f n)) =
    ap (λ s. flat_map (onward set g level) (branches level s)) here
    ∙ flat_map_same (onward set g level) (onward set f level) (branches level (f n))
    (λ b there. same_cond (set b.child) (within set g level b.child) (within set f level b.child) [] (λ inside. (same_within set f g level b.child (below' b there inside)).0)) in
    let exits_same : flat_map (outward set g level) (branches level (g n)) ≡ flat_map (outward set f level) (branches level (f n)) =
    ap (λ s. flat_map (outward set g level) (branches level s)) here
    ∙ flat_map_same (outward set g level) (outward set f level) (branches level (f n))
    (λ b there. same_cond (set b.child) (leaving set g level b.child) (leaving set f level b.child) (b ∷ []) (λ inside. (same_within set f g level b.child (below' b there inside)).1)) in
    (ap (λ l. n ∷ l) nodes_same, exits_same)

-- all ways are the ways inside the set of all nodes
pub under_within : (f : Contents) (level n : ℕ) → nodes_under f level n ≡ within (λ _. true) f level n
under_within f zero n = refl
under_within f (suc level) n =
    ap (λ l. n ∷ l) (flat_map_same (λ b. nodes_under f level b.child) (λ b. within (λ _. true) f level b.child) (branches level (f n)) (λ b there. under_within f level b.child))

pub same_under : (f g : Contents) (level n : ℕ) → ((x : ℕ) → 0 < times x (nodes_under f level n) → g x ≡ f x) → nodes_under g level n ≡ nodes_under f level n
same_under f g level n agree =
    let same = under_within f level n in
    under_within g level n
    ∙ (same_within (λ _. true) f g level n (λ x there. agree x (subst (λ l. 0 < times x l) (sym same) there))).0
    ∙ sym same

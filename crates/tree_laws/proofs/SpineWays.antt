-- The ways down a spine: of what a node reaches by ways inside a set that has its spine and nothing
-- else below it, before and after a fence is raised along the spine.
use Rattle.std.proofs.Common.{◌≡◌, ℕ, zero, suc, ◌+◌, ◌<◌, ◌≤◌, List, [], ◌∷◌, ◌++◌, refl, ap}
use Rattle.std.proofs.Common.{sym, ◌∙◌, arith, Bool, false, cond, IsTrue}
use Rattle.std.specs.List.{flat_map, AllByRecursion}
use Rattle.std.proofs.lemmas.List.{append-nil}
use Rattle.tree_shape.specs.declared.pair.Pair.{Pair}
use Rattle.tree_laws.specs.Numbers.{times}
use Rattle.tree_shape.specs.NodeData.{pairs_of, Cut}
use Rattle.tree_shape.specs.Changes.{ends_at, ends_at_fence, begins_after}
use Rattle.tree_laws.specs.Trees.{Contents, Branch, branch, branches_from, branches, nodes_under}
use Rattle.tree_laws.specs.Trees.{within}
use Rattle.tree_laws.specs.Trees.{leaving}
use Rattle.tree_laws.specs.Steps.{last_child, first_child, last_spine, first_spine}
use Rattle.tree_laws.proofs.Times.{In, times-append, times_flat_map_from, once_other}
use Rattle.tree_laws.proofs.Reach.{onward, outward, under_top}
use Rattle.tree_laws.proofs.Family.{quiet_onward, quiet_outward}
use Rattle.tree_shape.proofs.Slots.{some_left}
use Rattle.tree_laws.proofs.Spines.{Stands, apart_from_top, last_top, first_top, ordered_cut, last_of_pairs}
use Rattle.tree_laws.proofs.Spines.{ends_at_pairs, first_under}

-- the ways inside the set are the spine, and they leave it by the same branches
pub record WaysAlong (set : ℕ → Bool) (f g : Contents) (level n : ℕ) (spine : List ℕ) : Type 0 where
  pub before : within set f level n ≡ spine
  pub after : within set g level n ≡ spine
  pub exits : leaving set g level n ≡ leaving set f level n

-- what a branch brings that leads into the set, and one that leads outside
into : (set : ℕ → Bool) (f : Contents) (level : ℕ) (b : Branch) → IsTrue (set b.child) →
    (onward set f level b ≡ within set f level b.child) × (outward set f level b ≡ leaving set f
    level b.child)
into set f level b inside = (
  ap (λ v. cond v (within set f level b.child) []) inside,
  ap (λ v. cond v (leaving set f level b.child) (b ∷ [])) inside,
)

past : (set : ℕ → Bool) (f : Contents) (level : ℕ) (b : Branch) → set b.child ≡ false →
    (onward set f level b ≡ []) × (outward set f level b ≡ b ∷ [])
past set f level b outside = (
  ap (λ v. cond v (within set f level b.child) []) outside,
  ap (λ v. cond v (leaving set f level b.child) (b ∷ [])) outside,
)

-- a node's ways are itself and those of its branches
from_top : (set : ℕ → Bool) (f g : Contents) (level n : ℕ) {spine : List ℕ} {bs : List Branch} → branches level (g n) ≡ bs →
    (flat_map (onward set f level) (branches level (f n)) ≡ spine) × (flat_map (onward set g level) bs ≡ spine)
    × (flat_map (outward set g level) bs ≡ flat_map (outward set f level) (branches level (f n))) → WaysAlong set f g (suc level) n (n ∷ spine)
from_top set f g level n now ways = record {
  before = ap (λ l. n ∷ l) ways.0;
  after = ap (λ l. n ∷ l) (ap (flat_map (onward set g level)) now ∙ ways.1);
  exits = ap (flat_map (outward set g level)) now ∙ ways.2;
}

pub left_ways : (set : ℕ → Bool) (f g : Contents) (fence level n low high : ℕ) →
    Stands f level n low high →
    ((x : ℕ) → 0 < times x (last_spine f level n) → IsTrue (set x) × (g x ≡ ends_at_fence fence (f x))) →
    ((x : ℕ) → 0 < times x (nodes_under f level n) → times x (last_spine f level n) ≡ 0 →
    set x ≡ false) →
    ((x : ℕ) → times x (nodes_under f level n) ≤ 1) →
    WaysAlong set f g level n (last_spine f level n)
unfolding Stands
left_ways set f g fence zero n low high stands spine rest once' =
    record { before = refl; after = refl; exits = refl }
left_ways set f g fence (suc level) n low high stands spine rest once' =
    let now = (spine n (last_top f (suc level) n)).1 in
    let pairs_now : branches level (g n) ≡ branches_from level (f n).low
    (ends_at fence (pairs_of (f n))) =
    ap (branches level) now ∙ ap (branches_from level (f n).low) (ends_at_pairs fence (f n).body) in
    let cut = ordered_cut (f n) (f n).body stands.0.3 (omega (arith, stands.0.0)) high stands.0.2 in
    let ways = of_pairs (f n).low (pairs_of (f n)) 0 cut (omega (arith, stands.0.1, stands.0.4))
    stands.1
    (λ m l h below sp re on. left_ways set f g fence level m l h below sp re on)
    (λ x there. spine x (omega arith))
    (λ x there none. rest x (omega arith) (omega (arith, once_other x n (apart_from_top f level n once' x there))))
    (λ x. omega (arith, once' x)) in
    from_top set f g level n pairs_now ways
  where
    of_pairs : (low : ℕ) (pairs : List Pair) (start : ℕ) → Cut low high pairs → low ≤ high →
        AllByRecursion (λ b. Stands f level b.child b.frame.low b.frame.high)
        (branches_from level low pairs) →
        ((m l h : ℕ) → Stands f level m l h →
        ((x : ℕ) → 0 < times x (last_spine f level m) → IsTrue (set x) × (g x ≡ ends_at_fence fence (f x)))
        →
        ((x : ℕ) → 0 < times x (nodes_under f level m) → times x (last_spine f level m) ≡ 0 →
        set x ≡ false) →
        ((x : ℕ) → times x (nodes_under f level m) ≤ 1) →
        WaysAlong set f g level m (last_spine f level m)) →
        ((x : ℕ) → 0 < times x (last_spine f level (last_child start pairs)) →
        IsTrue (set x) × (g x ≡ ends_at_fence fence (f x))) →
        ((x : ℕ) →
        0 < times x (flat_map (λ (b : Branch). nodes_under f level b.child)
        (branches_from level low pairs)) →
        times x (last_spine f level (last_child start pairs)) ≡ 0 → set x ≡ false) →
        ((x : ℕ) →
        times x (flat_map (λ (b : Branch). nodes_under f level b.child)
        (branches_from level low pairs)) ≤ 1) →
        (flat_map (onward set f level) (branches_from level low pairs) ≡ last_spine f level
        (last_child start pairs))
        × (flat_map (onward set g level) (branches_from level low (ends_at fence pairs))
        ≡ last_spine f level (last_child start pairs))
        × (flat_map (outward set g level) (branches_from level low (ends_at fence pairs)) ≡ flat_map
        (outward set f level) (branches_from level low pairs))
    of_pairs low [] start cut order all each sp re on = absurd (omega arith)
    of_pairs low (p ∷ []) start cut order all each sp re on =
        let b : Branch = branch p.child level low p.separator in
        let b' : Branch = branch p.child level low fence in
        let inside = (sp p.child (last_top f level p.child)).0 in
        let deeper = each p.child low p.separator all.0 sp
        (λ x there none. re x (omega (arith, times-append x (nodes_under f level p.child) [])) none)
        (λ x. omega (arith, on x, times-append x (nodes_under f level p.child) [])) in
        let old = into set f level b inside in
        let new' = into set g level b' inside in (
          ap (λ l. l ++ []) (old.0 ∙ deeper.before) ∙ append-nil (last_spine f level p.child),
          ap (λ l. l ++ []) (new'.0 ∙ deeper.after) ∙ append-nil (last_spine f level p.child),
          ap (λ l. l ++ []) (new'.1 ∙ deeper.exits ∙ sym old.1),
        )
    of_pairs low (p ∷ q ∷ pairs) start cut order all each sp re on =
        let tail = flat_map (λ (b : Branch). nodes_under f level b.child)
        (branches_from level (p.separator + 1) (q ∷ pairs)) in
        let order' = some_left (p.separator + 1) high (q ∷ pairs) cut.1 (omega arith) in
        let b : Branch = branch p.child level low p.separator in
        let first = under_top f level p.child in
        let spine_in = last_of_pairs f level p.child (p.separator + 1) high (q ∷ pairs) p.child
        cut.1 order' all.1 in
        let outside : set p.child ≡ false =
        re p.child (omega (arith, times-append p.child (nodes_under f level p.child) tail))
        (omega (arith, on p.child, times-append p.child (nodes_under f level p.child) tail)) in
        let ways = of_pairs (p.separator + 1) (q ∷ pairs) p.child cut.1 order' all.1 each sp
        (λ x there none. re x (omega (arith, times-append x (nodes_under f level p.child) tail))
        none)
        (λ x. omega (arith, on x, times-append x (nodes_under f level p.child) tail)) in
        let old = past set f level b outside in
        let new' = past set g level b outside in (
          ap (λ l. l ++ flat_map (onward set f level)
              (branches_from level (p.separator + 1) (q ∷ pairs))) old.0 ∙ ways.0,
          ap (λ l. l ++ flat_map (onward set g level)
              (branches_from level (p.separator + 1) (ends_at fence (q ∷ pairs)))) new'.0 ∙ ways.1,
          ap (λ l. l ++ flat_map (outward set g level)
              (branches_from level (p.separator + 1) (ends_at fence (q ∷ pairs)))) new'.1
              ∙ ap (λ l. b ∷ l) ways.2
              ∙ sym (ap
              (λ l. l ++ flat_map (outward set f level)
              (branches_from level (p.separator + 1) (q ∷ pairs))) old.1),
        )

pub right_ways : (set : ℕ → Bool) (f g : Contents) (fence level n low high : ℕ) →
    Stands f level n low high →
    ((x : ℕ) → 0 < times x (first_spine f level n) →
    IsTrue (set x) × (g x ≡ begins_after fence (f x))) →
    ((x : ℕ) → 0 < times x (nodes_under f level n) → times x (first_spine f level n) ≡ 0 →
    set x ≡ false) →
    ((x : ℕ) → times x (nodes_under f level n) ≤ 1) →
    WaysAlong set f g level n (first_spine f level n)
unfolding Stands
right_ways set f g fence zero n low high stands spine rest once' =
    record { before = refl; after = refl; exits = refl }
right_ways set f g fence (suc level) n low high stands spine rest once' =
    let now = (spine n (first_top f (suc level) n)).1 in
    let pairs_now : branches level (g n) ≡ branches_from level (fence + 1) (pairs_of (f n)) =
    ap (branches level) now in
    let cut = ordered_cut (f n) (f n).body stands.0.3 (omega (arith, stands.0.0)) high stands.0.2 in
    let ways = of_pairs (f n).low (pairs_of (f n)) cut (omega (arith, stands.0.1, stands.0.4))
    stands.1
    (λ m l h sp re on below. right_ways set f g fence level m l h below sp re on)
    (λ x there. spine x (omega arith))
    (λ x there none. rest x (omega arith) (omega (arith, once_other x n (apart_from_top f level n once' x there))))
    (λ x. omega (arith, once' x)) in
    from_top set f g level n pairs_now ways
  where
    of_pairs : (low : ℕ) (pairs : List Pair) → Cut low high pairs → low ≤ high →
        AllByRecursion (λ b. Stands f level b.child b.frame.low b.frame.high)
        (branches_from level low pairs) →
        ((m l h : ℕ) →
        ((x : ℕ) → 0 < times x (first_spine f level m) →
        IsTrue (set x) × (g x ≡ begins_after fence (f x)))
        →
        ((x : ℕ) → 0 < times x (nodes_under f level m) → times x (first_spine f level m) ≡ 0 →
        set x ≡ false) →
        ((x : ℕ) → times x (nodes_under f level m) ≤ 1) → Stands f level m l h →
        WaysAlong set f g level m (first_spine f level m)) →
        ((x : ℕ) → 0 < times x (first_spine f level (first_child 0 pairs)) →
        IsTrue (set x) × (g x ≡ begins_after fence (f x))) →
        ((x : ℕ) →
        0 < times x (flat_map (λ (b : Branch). nodes_under f level b.child)
        (branches_from level low pairs)) →
        times x (first_spine f level (first_child 0 pairs)) ≡ 0 → set x ≡ false) →
        ((x : ℕ) →
        times x (flat_map (λ (b : Branch). nodes_under f level b.child)
        (branches_from level low pairs)) ≤ 1) →
        (flat_map (onward set f level) (branches_from level low pairs) ≡ first_spine f level
        (first_child 0 pairs))
        × (flat_map (onward set g level) (branches_from level (fence + 1) pairs) ≡ first_spine f
        level (first_child 0 pairs))
        × (flat_map (outward set g level) (branches_from level (fence + 1) pairs) ≡ flat_map
        (outward set f level) (branches_from level low pairs))
    of_pairs low [] cut order all each sp re on = absurd (omega arith)
    of_pairs low (p ∷ pairs) cut order all each sp re on =
        let bs = branches_from level (p.separator + 1) pairs in
        let tail = flat_map (λ (b : Branch). nodes_under f level b.child) bs in
        let b : Branch = branch p.child level low p.separator in
        let b' : Branch = branch p.child level (fence + 1) p.separator in
        let inside = (sp p.child (first_top f level p.child)).0 in
        let deeper = each p.child low p.separator sp
        (λ x there none. re x (omega (arith, times-append x (nodes_under f level p.child) tail))
        none)
        (λ x. omega (arith, on x, times-append x (nodes_under f level p.child) tail)) all.0 in
        let quiet : (c : Branch) → In c bs → set c.child ≡ false =
        λ c there.
        let brought = times_flat_map_from (λ (d : Branch). nodes_under f level d.child) bs c c.child
        there in
        let first = under_top f level c.child in
        re c.child (omega (arith, times-append c.child (nodes_under f level p.child) tail))
        (omega (
          arith,
          on c.child,
          times-append c.child (nodes_under f level p.child) tail,
          first_under f level p.child low p.separator all.0 c.child,
        )) in
        let old = into set f level b inside in
        let new' = into set g level b' inside in (
          ap (λ l. l ++ flat_map (onward set f level) bs) (old.0 ∙ deeper.before)
              ∙ ap (λ l. first_spine f level p.child ++ l) (quiet_onward set f level bs quiet)
              ∙ append-nil (first_spine f level p.child),
          ap (λ l. l ++ flat_map (onward set g level) bs) (new'.0 ∙ deeper.after)
              ∙ ap (λ l. first_spine f level p.child ++ l) (quiet_onward set g level bs quiet)
              ∙ append-nil (first_spine f level p.child),
          ap (λ l. l ++ flat_map (outward set g level) bs) (new'.1 ∙ deeper.exits ∙ sym old.1)
              ∙ ap (λ l. outward set f level b ++ l) (quiet_outward set g level bs quiet
              ∙ sym (quiet_outward set f level bs quiet)),
        )

-- What stands below a node, and what a fence that is raised along a spine makes of it.
use Rattle.std.proofs.Common.{◌≡◌, ◌≢◌, ℕ, zero, suc, ◌+◌, ◌-◌, ◌<◌, ◌≤◌, List, [], ◌∷◌, refl, ap}
use Rattle.std.proofs.Common.{sym, ◌∙◌, subst, arith, Bool, IsTrue, inl, inr}
use Rattle.std.specs.List.{flat_map, AllByRecursion}
use Rattle.reg_model.specs.declared.span.Member.{Member}
use Rattle.tree_shape.specs.declared.pair.Pair.{Pair}
use Rattle.tree_laws.specs.Numbers.{times}
use Rattle.tree_shape.specs.NodeData.{NodeData, Body, Pairs, Entries, Link, pairs_of, pairs_in}
use Rattle.tree_shape.specs.NodeData.{EntriesWithin, Cut}
use Rattle.tree_shape.specs.Changes.{ends_at, ends_at_as, ends_at_fence, begins_after}
use Rattle.tree_laws.specs.Trees.{Contents, Branch, branches_from, branches, nodes_under, within}
use Rattle.tree_laws.specs.Lawful.{IsTree, IsOrdered, IsOrderedAs, FitsParent}
use Rattle.tree_laws.specs.Steps.{last_child, first_child, last_spine, first_spine, LiesAbove}
use Rattle.tree_laws.proofs.Times.{In, all_at, all_from, once_same, once_other, times-append}
use Rattle.tree_laws.proofs.Times.{times_head, times_cases, times_flat_map, times_flat_map_from}
use Rattle.tree_laws.proofs.Reach.{branch_level, under_top}
use Rattle.tree_laws.proofs.Living.{own_branches, own_at, no_branches, child_live, child_fits}
use Rattle.tree_laws.proofs.Leads.{branch_inside, inner_above}
use Rattle.tree_shape.proofs.Slots.{some_left}

-- what holds below a node, level by level: levels, fences and order
abbrev pub Here : Contents → ℕ → ℕ → ℕ → ℕ → Type 0
Here h level n low high = ((h n).level ≡ level) × ((h n).low ≡ low) × ((h n).high ≡ high) × IsOrdered (h n) × (low ≤ high)

unfoldable pub Stands : Contents → ℕ → ℕ → ℕ → ℕ → Type 0
Stands h zero n low high = Here h zero n low high
Stands h (suc level) n low high = Here h (suc level) n low high × AllByRecursion
    (λ b. Stands h level b.child b.frame.low b.frame.high) (branches level (h n))

stands_here : (h : Contents) (level n low high : ℕ) → Stands h level n low high → Here h level n low high
unfolding Stands
stands_here h zero n low high stands = stands
stands_here h (suc level) n low high stands = stands.0

-- a live node stands
pub stands_live : (f : Contents) (live : ℕ → Bool) → IsTree f live → (level n : ℕ) → IsTrue (live n) → (f n).level ≡ level → (f n).low ≤ (f n).high → Stands f level n (f n).low (f n).high
unfolding Stands
stands_live f live tree zero n alive at order = (at, refl, refl, tree.ordered n alive, order)
stands_live f live tree (suc level) n alive at order = (
  (at, refl, refl, tree.ordered n alive, order),
  all_from (λ b. Stands f level b.child b.frame.low b.frame.high) (branches level (f n)) (λ b there.
      let own : In b (own_branches f n) = subst (λ bs. In b bs) (sym (own_at f n level at)) there in
      let fits = child_fits f live tree n alive b own in
      let cut = inner_above (f n) (f n).body (tree.ordered n alive) (omega arith) in
      let inside = branch_inside level (f n).low (f n).high (pairs_of (f n)) b cut there in
      let below = stands_live f live tree level b.child (child_live f live tree n alive b own) (fits.level ∙ branch_level level (f n).low (pairs_of (f n)) b there)
      (omega (arith, fits.low, fits.high, inside.1)) in
      subst (λ l. Stands f level b.child l b.frame.high) fits.low
      (subst (λ h. Stands f level b.child (f b.child).low h) fits.high below)),
)

-- contents that agree below a node
pub stands_same : (f g : Contents) (level n low high : ℕ) → ((x : ℕ) → 0 < times x (nodes_under f level n) → g x ≡ f x) → Stands f level n low high → Stands g level n low high
unfolding Stands
stands_same f g zero n low high agree stands =
    subst (λ (s : NodeData). (s.level ≡ zero) × (s.low ≡ low) × (s.high ≡ high) × IsOrdered s × (low ≤ high)) (sym (agree n (under_top f zero n))) stands
stands_same f g (suc level) n low high agree stands =
    let same = agree n (under_top f (suc level) n) in (
      subst (λ (s : NodeData). (s.level ≡ suc level) × (s.low ≡ low) × (s.high ≡ high) × IsOrdered s × (low ≤ high)) (sym same) stands.0,
      subst (λ s. AllByRecursion (λ b. Stands g level b.child b.frame.low b.frame.high)
          (branches level s)) (sym same)
          (all_from (λ b. Stands g level b.child b.frame.low b.frame.high) (branches level (f n))
          (λ b there.
          stands_same f g level b.child b.frame.low b.frame.high
          (λ x at. agree x (omega (arith, at, times_flat_map_from (λ (c : Branch). nodes_under f level c.child) (branches level (f n)) b x there)))
          (all_at (λ b. Stands f level b.child b.frame.low b.frame.high) (branches level (f n)) b
          stands.1 there))),
    )

-- what stands is ordered, and its children fit
pub stands_says : (h : Contents) (level n low high : ℕ) → Stands h level n low high → (x : ℕ) → 0 < times x (nodes_under h level n) →
    IsOrdered (h x) × ((b : Branch) → In b (own_branches h x) → FitsParent h b)
unfolding Stands
stands_says h zero n low high stands x there = elim (times_cases x n [] there) [
  | inl e ↦ subst (λ y. IsOrdered (h y) × ((b : Branch) → In b (own_branches h y) → FitsParent h b))
      (sym e)
      (stands.3, λ b own. absurd (no_branches (h n) ((h n).level - 1) b stands.3 stands.0 own))
  | inr none ↦ absurd (omega arith)
]
stands_says h (suc level) n low high stands x there = elim (times_cases x n (flat_map (λ (b : Branch). nodes_under h level b.child) (branches level (h n))) there) [
  | inl e ↦ subst (λ y. IsOrdered (h y) × ((b : Branch) → In b (own_branches h y) → FitsParent h b))
      (sym e) (
        stands.0.3,
        λ b own.
            let there' : In b (branches level (h n)) = subst (λ bs. In b bs) (own_at h n level stands.0.0) own in
            let below = stands_here h level b.child b.frame.low b.frame.high
            (all_at (λ b. Stands h level b.child b.frame.low b.frame.high) (branches level (h n)) b
            stands.1 there') in
            record { level = below.0 ∙ sym (branch_level level (h n).low (pairs_of (h n)) b there'); low = below.1; high = below.2 },
      )
  | inr later ↦
      let found = times_flat_map (λ (b : Branch). nodes_under h level b.child) (branches level (h n)) x later in
      stands_says h level found.0.child found.0.frame.low found.0.frame.high
      (all_at (λ b. Stands h level b.child b.frame.low b.frame.high) (branches level (h n))
      found.0 stands.1 found.1.0) x found.1.1
]

pub ordered_cut : (s : NodeData) (b : Body) → IsOrderedAs s b → 0 < s.level → (high : ℕ) →
    s.high ≡ high → Cut s.low high (pairs_in b)
ordered_cut s b ordered above high is = subst (λ h. Cut s.low h (pairs_in b)) is (inner_above s b ordered above)

-- a spine has its top
pub last_top : (f : Contents) (level n : ℕ) → 0 < times n (last_spine f level n)
last_top f zero n = times_head n []
last_top f (suc level) n = times_head n (last_spine f level (last_child 0 (pairs_of (f n))))

pub first_top : (f : Contents) (level n : ℕ) → 0 < times n (first_spine f level n)
first_top f zero n = times_head n []
first_top f (suc level) n = times_head n (first_spine f level (first_child 0 (pairs_of (f n))))

-- the spines lie below their tops
last_of_pairs_with : (f : Contents) (level x low high : ℕ) (pairs : List Pair) (start : ℕ) →
    Cut low high pairs → low ≤ high →
    AllByRecursion (λ b. Stands f level b.child b.frame.low b.frame.high)
    (branches_from level low pairs) →
    ((m l h : ℕ) → Stands f level m l h → times x (last_spine f level m) ≤ times x (nodes_under f level m)) →
    times x (last_spine f level (last_child start pairs)) ≤ times x (flat_map (λ (b : Branch). nodes_under f level b.child) (branches_from level low pairs))
last_of_pairs_with f level x low high [] start cut order all each = absurd (omega arith)
last_of_pairs_with f level x low high (p ∷ []) start cut order all each = omega (arith, each p.child low p.separator all.0, times-append x (nodes_under f level p.child) [])
last_of_pairs_with f level x low high (p ∷ q ∷ pairs) start cut order all each =
    let rest = last_of_pairs_with f level x (p.separator + 1) high (q ∷ pairs) p.child cut.1 (some_left (p.separator + 1) high (q ∷ pairs) cut.1 (omega arith)) all.1 each in
    omega (arith, times-append x (nodes_under f level p.child) (flat_map (λ (b : Branch). nodes_under f level b.child) (branches_from level (p.separator + 1) (q ∷ pairs))))

pub last_under : (f : Contents) (level n low high : ℕ) → Stands f level n low high → (x : ℕ) → times x (last_spine f level n) ≤ times x (nodes_under f level n)
unfolding Stands
last_under f zero n low high stands x = omega arith
last_under f (suc level) n low high stands x =
    omega (
      arith,
      last_of_pairs_with f level x (f n).low high (pairs_of (f n)) 0 (ordered_cut (f n) (f n).body stands.0.3 (omega (arith, stands.0.0)) high stands.0.2)
          (omega (arith, stands.0.1, stands.0.4)) stands.1 (λ m l h below. last_under f level m l h below x),
    )

pub last_of_pairs : (f : Contents) (level x low high : ℕ) (pairs : List Pair) (start : ℕ) →
    Cut low high pairs → low ≤ high →
    AllByRecursion (λ b. Stands f level b.child b.frame.low b.frame.high)
    (branches_from level low pairs) →
    times x (last_spine f level (last_child start pairs)) ≤ times x (flat_map (λ (b : Branch). nodes_under f level b.child) (branches_from level low pairs))
last_of_pairs f level x low high pairs start cut order all = last_of_pairs_with f level x low high pairs start cut order all (λ m l h below. last_under f level m l h below x)

pub first_under : (f : Contents) (level n low high : ℕ) → Stands f level n low high → (x : ℕ) → times x (first_spine f level n) ≤ times x (nodes_under f level n)
unfolding Stands
first_under f zero n low high stands x = omega arith
first_under f (suc level) n low high stands x = omega (
  arith,
  of_pairs (f n).low high (pairs_of (f n)) (ordered_cut (f n) (f n).body stands.0.3 (omega (arith, stands.0.0)) high stands.0.2) (omega (arith, stands.0.1, stands.0.4)) stands.1
      (λ m l h below. first_under f level m l h below x),
)
  where
    of_pairs : (low high : ℕ) (pairs : List Pair) → Cut low high pairs → low ≤ high →
        AllByRecursion (λ b. Stands f level b.child b.frame.low b.frame.high)
        (branches_from level low pairs) →
        ((m l h : ℕ) → Stands f level m l h → times x (first_spine f level m) ≤ times x (nodes_under f level m)) →
        times x (first_spine f level (first_child 0 pairs)) ≤ times x (flat_map (λ (b : Branch). nodes_under f level b.child) (branches_from level low pairs))
    of_pairs low high [] cut order all each = absurd (omega arith)
    of_pairs low high (p ∷ pairs) cut order all each =
        omega (
          arith,
          each p.child low p.separator all.0,
          times-append x (nodes_under f level p.child) (flat_map (λ (b : Branch). nodes_under f level b.child) (branches_from level (p.separator + 1) pairs)),
        )

-- a leaf and an inner node whose high fence is raised
entries_higher : (low high higher : ℕ) (entries : List Member) → EntriesWithin low high entries → high ≤ higher → EntriesWithin low higher entries
entries_higher low high higher [] within above = (tt, tt)
entries_higher low high higher (m ∷ entries) within above =
    let rest = entries_higher (m.span.last + 1) high higher entries (within.0.2, within.1.1) above
    in
    ((within.0.0, within.0.1, rest.0), (omega (arith, within.1.0), rest.1))

cut_higher : (low high fence : ℕ) (pairs : List Pair) → Cut low high pairs → low ≤ high → high < fence → Cut low fence (ends_at fence pairs)
cut_higher low high fence [] cut order above = absurd (omega arith)
cut_higher low high fence (p ∷ []) cut order above = (omega (arith, cut.0, cut.1), refl)
cut_higher low high fence (p ∷ q ∷ pairs) cut order above =
    (cut.0, cut_higher (p.separator + 1) high fence (q ∷ pairs) cut.1 (some_left (p.separator + 1) high (q ∷ pairs) cut.1 (omega arith)) above)

raised_ordered : (s : NodeData) (b : Body) (fence : ℕ) → IsOrderedAs s b → s.low ≤ s.high → s.high < fence → IsOrderedAs (record { level = s.level; low = s.low; high = fence; body = ends_at_as fence b }) (ends_at_as fence b)
raised_ordered s (Pairs pairs) fence ordered order above = (ordered.0, cut_higher s.low s.high fence pairs ordered.1 order above)
raised_ordered s (Entries es) fence ordered order above = (ordered.0, entries_higher s.low s.high fence es ordered.1 (omega arith))
raised_ordered s (Link next) fence ordered order above = absurd ordered

-- a leaf and an inner node whose low fence is raised
cut_lower : (low high fence : ℕ) (pairs : List Pair) → Cut low high pairs → low ≤ high → AllByRecursion (λ p. fence < p.separator) pairs → Cut (fence + 1) high pairs
cut_lower low high fence [] cut order above = absurd (omega arith)
cut_lower low high fence (p ∷ pairs) cut order above = (omega (arith, above.0), cut.1)

entries_after_fence : (low high fence : ℕ) (entries : List Member) → EntriesWithin low high entries → AllByRecursion (λ m. fence < m.span.first) entries → EntriesWithin (fence + 1) high entries
entries_after_fence low high fence [] within above = (tt, tt)
entries_after_fence low high fence (m ∷ entries) within above =
    ((omega (arith, above.0), within.0.1, within.0.2), within.1)

shortened_ordered : (s : NodeData) (b : Body) (fence : ℕ) → IsOrderedAs s b → s.low ≤ s.high → LiesAbove fence b → IsOrderedAs (record { level = s.level; low = fence + 1; high = s.high; body = b }) b
shortened_ordered s (Pairs pairs) fence ordered order above = (ordered.0, cut_lower s.low s.high fence pairs ordered.1 order above)
shortened_ordered s (Entries es) fence ordered order above = (ordered.0, entries_after_fence s.low s.high fence es ordered.1 above)
shortened_ordered s (Link next) fence ordered order above = absurd ordered

pub ends_at_pairs : (fence : ℕ) (b : Body) → pairs_in
    (ends_at_as fence b) ≡ ends_at fence (pairs_in b)
ends_at_pairs fence (Pairs pairs) = refl
ends_at_pairs fence (Entries es) = refl
ends_at_pairs fence (Link next) = refl

-- what a node's branches reach isn't the node itself
pub apart_from_top : (f : Contents) (level n : ℕ) → ((x : ℕ) → times x (nodes_under f (suc level) n) ≤ 1) →
    (x : ℕ) → 0 < times x (flat_map (λ (b : Branch). nodes_under f level b.child) (branches level (f n))) → x ≢ n
apart_from_top f level n once' x there e =
    let once_n = once' n in
    let there_n = subst (λ y. 0 < times y (flat_map (λ (b : Branch). nodes_under f level b.child) (branches level (f n)))) e there in
    omega (arith, once_same n, once_n, there_n)

-- what stands, with the fence raised along the last spine
pub left_stands : (f g : Contents) (fence level n low high : ℕ) → Stands f level n low high → high < fence →
    ((x : ℕ) → 0 < times x (last_spine f level n) → g x ≡ ends_at_fence fence (f x)) →
    ((x : ℕ) → 0 < times x (nodes_under f level n) → times x (last_spine f level n) ≡ 0 → g x ≡ f x) →
    ((x : ℕ) → times x (nodes_under f level n) ≤ 1) → Stands g level n low fence
unfolding Stands
left_stands f g fence zero n low high stands above spine rest once' =
    let now = spine n (times_head n []) in
    let order : (f n).low ≤ (f n).high = omega (arith, stands.1, stands.2, stands.4) in (
      ap (λ s. s.level) now ∙ stands.0,
      ap (λ s. s.low) now ∙ stands.1,
      ap (λ s. s.high) now,
      subst IsOrdered (sym now) (raised_ordered (f n) (f n).body fence stands.3 order (omega (arith, stands.2))),
      omega (arith, stands.4),
    )
left_stands f g fence (suc level) n low high stands above spine rest once' =
    let now = spine n (times_head n (last_spine f level (last_child 0 (pairs_of (f n))))) in
    let order : (f n).low ≤ (f n).high = omega (arith, stands.0.1, stands.0.2, stands.0.4) in
    let cut = ordered_cut (f n) (f n).body stands.0.3 (omega (arith, stands.0.0)) high stands.0.2 in
    let pairs_now : branches level (g n) ≡ branches_from level (f n).low (ends_at fence (pairs_of (f n))) =
    ap (branches level) now ∙ ap (branches_from level (f n).low) (ends_at_pairs fence (f n).body) in (
      (
        ap (λ s. s.level) now ∙ stands.0.0,
        ap (λ s. s.low) now ∙ stands.0.1,
        ap (λ s. s.high) now,
        subst IsOrdered (sym now) (raised_ordered (f n) (f n).body fence stands.0.3 order (omega (arith, stands.0.2))),
        omega (arith, stands.0.4),
      ),
      subst (AllByRecursion (λ b. Stands g level b.child b.frame.low b.frame.high)) (sym pairs_now)
          (of_pairs (f n).low (pairs_of (f n)) 0 cut (omega (arith, stands.0.2)) stands.1
          (λ m l h below higher sp re on. left_stands f g fence level m l h below higher sp re on)
          (λ x there. spine x (omega arith))
          (λ x there none. rest x (omega arith) (omega (arith, once_other x n (apart_from_top f level n once' x there))))
          (λ x. omega (arith, once' x))),
    )
  where
    of_pairs : (low : ℕ) (pairs : List Pair) (start : ℕ) → Cut low high pairs → low ≤ high →
        AllByRecursion (λ b. Stands f level b.child b.frame.low b.frame.high)
        (branches_from level low pairs) →
        ((m l h : ℕ) → Stands f level m l h → h < fence →
        ((x : ℕ) → 0 < times x (last_spine f level m) → g x ≡ ends_at_fence fence (f x)) →
        ((x : ℕ) → 0 < times x (nodes_under f level m) → times x (last_spine f level m) ≡ 0 → g x ≡ f x) →
        ((x : ℕ) → times x (nodes_under f level m) ≤ 1) → Stands g level m l fence) →
        ((x : ℕ) → 0 < times x (last_spine f level (last_child start pairs)) → g x ≡ ends_at_fence fence (f x)) →
        ((x : ℕ) → 0 < times x (flat_map (λ (b : Branch). nodes_under f level b.child) (branches_from level low pairs)) → times x (last_spine f level (last_child start pairs)) ≡ 0 → g x ≡ f x) →
        ((x : ℕ) → times x (flat_map (λ (b : Branch). nodes_under f level b.child) (branches_from level low pairs)) ≤ 1) →
        AllByRecursion (λ b. Stands g level b.child b.frame.low b.frame.high)
        (branches_from level low (ends_at fence pairs))
    of_pairs low [] start cut order all each sp re on = tt
    of_pairs low (p ∷ []) start cut order all each sp re on = (
      each p.child low p.separator all.0 (omega (arith, cut.1)) sp
          (λ x there none. re x (omega (arith, times-append x (nodes_under f level p.child) [])) none)
          (λ x. omega (arith, on x, times-append x (nodes_under f level p.child) [])),
      tt,
    )
    of_pairs low (p ∷ q ∷ pairs) start cut order all each sp re on =
        let tail = flat_map (λ (b : Branch). nodes_under f level b.child) (branches_from level (p.separator + 1) (q ∷ pairs)) in
        let order' = some_left (p.separator + 1) high (q ∷ pairs) cut.1 (omega arith) in
        let spine_in : (x : ℕ) → times x (last_spine f level (last_child p.child (q ∷ pairs))) ≤ times x tail =
        λ x. last_of_pairs f level x (p.separator + 1) high (q ∷ pairs) p.child cut.1 order' all.1 in (
          stands_same f g level p.child low p.separator
              (λ x there. re x (omega (arith, times-append x (nodes_under f level p.child) tail))
              (omega (arith, on x, times-append x (nodes_under f level p.child) tail, spine_in x))) all.0,
          of_pairs (p.separator + 1) (q ∷ pairs) p.child cut.1 order' all.1 each sp
              (λ x there none. re x (omega (arith, times-append x (nodes_under f level p.child) tail)) none)
              (λ x. omega (arith, on x, times-append x (nodes_under f level p.child) tail)),
        )

-- what stands, with the low fence raised along the first spine
pub right_stands : (f g : Contents) (fence level n low high : ℕ) → Stands f level n low high →
    AllByRecursion (λ x. (fence < (f x).high) × LiesAbove fence (f x).body) (first_spine f level n) →
    ((x : ℕ) → 0 < times x (first_spine f level n) → g x ≡ begins_after fence (f x)) →
    ((x : ℕ) → 0 < times x (nodes_under f level n) → times x (first_spine f level n) ≡ 0 → g x ≡ f x) →
    ((x : ℕ) → times x (nodes_under f level n) ≤ 1) → Stands g level n (fence + 1) high
unfolding Stands
right_stands f g fence zero n low high stands below spine rest once' =
    let now = spine n (times_head n []) in
    let order : (f n).low ≤ (f n).high = omega (arith, stands.1, stands.2, stands.4) in (
      ap (λ s. s.level) now ∙ stands.0,
      ap (λ s. s.low) now,
      ap (λ s. s.high) now ∙ stands.2,
      subst IsOrdered (sym now) (shortened_ordered (f n) (f n).body fence stands.3 order below.0.1),
      omega (arith, below.0.0, stands.2),
    )
right_stands f g fence (suc level) n low high stands below spine rest once' =
    let now = spine n (times_head n (first_spine f level (first_child 0 (pairs_of (f n))))) in
    let order : (f n).low ≤ (f n).high = omega (arith, stands.0.1, stands.0.2, stands.0.4) in
    let cut = ordered_cut (f n) (f n).body stands.0.3 (omega (arith, stands.0.0)) high stands.0.2 in
    let pairs_now : branches level (g n) ≡ branches_from level (fence + 1) (pairs_of (f n)) = ap (branches level) now in (
      (
        ap (λ s. s.level) now ∙ stands.0.0,
        ap (λ s. s.low) now,
        ap (λ s. s.high) now ∙ stands.0.2,
        subst IsOrdered (sym now) (shortened_ordered (f n) (f n).body fence stands.0.3 order below.0.1),
        omega (arith, below.0.0, stands.0.2),
      ),
      subst (AllByRecursion (λ b. Stands g level b.child b.frame.low b.frame.high)) (sym pairs_now)
          (of_pairs (f n).low (pairs_of (f n)) cut (omega (arith, stands.0.1, stands.0.4)) stands.1
          (λ m l h b sp re on standing. right_stands f g fence level m l h standing b sp re on)
          below.1
          (λ x there. spine x (omega arith))
          (λ x there none. rest x (omega arith) (omega (arith, once_other x n (apart_from_top f level n once' x there))))
          (λ x. omega (arith, once' x))),
    )
  where
    of_pairs : (low : ℕ) (pairs : List Pair) → Cut low high pairs → low ≤ high →
        AllByRecursion (λ b. Stands f level b.child b.frame.low b.frame.high)
        (branches_from level low pairs) →
        ((m l h : ℕ) → AllByRecursion (λ x. (fence < (f x).high) × LiesAbove fence (f x).body) (first_spine f level m) →
        ((x : ℕ) → 0 < times x (first_spine f level m) → g x ≡ begins_after fence (f x)) →
        ((x : ℕ) → 0 < times x (nodes_under f level m) → times x (first_spine f level m) ≡ 0 → g x ≡ f x) →
        ((x : ℕ) → times x (nodes_under f level m) ≤ 1) → Stands f level m l h → Stands g level m (fence + 1) h) →
        AllByRecursion (λ x. (fence < (f x).high) × LiesAbove fence (f x).body) (first_spine f level (first_child 0 pairs)) →
        ((x : ℕ) → 0 < times x (first_spine f level (first_child 0 pairs)) →
        g x ≡ begins_after fence (f x)) →
        ((x : ℕ) → 0 < times x (flat_map (λ (b : Branch). nodes_under f level b.child) (branches_from level low pairs)) → times x (first_spine f level (first_child 0 pairs)) ≡ 0 → g x ≡ f x) →
        ((x : ℕ) → times x (flat_map (λ (b : Branch). nodes_under f level b.child) (branches_from level low pairs)) ≤ 1) →
        AllByRecursion (λ b. Stands g level b.child b.frame.low b.frame.high)
        (branches_from level (fence + 1) pairs)
    of_pairs low [] cut order all each below sp re on = tt
    of_pairs low (p ∷ pairs) cut order all each below sp re on =
        let tail = flat_map (λ (b : Branch). nodes_under f level b.child) (branches_from level (p.separator + 1) pairs) in (
          each p.child low p.separator below sp
              (λ x there none. re x (omega (arith, times-append x (nodes_under f level p.child) tail)) none)
              (λ x. omega (arith, on x, times-append x (nodes_under f level p.child) tail)) all.0,
          all_from (λ b. Stands g level b.child b.frame.low b.frame.high)
              (branches_from level (p.separator + 1) pairs) (λ b there.
              stands_same f g level b.child b.frame.low b.frame.high
              (λ x at.
              let brought = times_flat_map_from (λ (c : Branch). nodes_under f level c.child) (branches_from level (p.separator + 1) pairs) b x there in
              re x (omega (arith, at, times-append x (nodes_under f level p.child) tail))
              (omega (arith, at, on x, times-append x (nodes_under f level p.child) tail, first_under f level p.child low p.separator all.0 x)))
              (all_at (λ b. Stands f level b.child b.frame.low b.frame.high)
              (branches_from level (p.separator + 1) pairs) b all.1 there)),
        )

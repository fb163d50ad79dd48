-- The law of local change. Each number of the tree stands above and beside the top (`around`), is reached from it by ways
-- inside the group, or lies below the branches that leave the group. A change replaces the middle part and leaves the others.
use Rattle.std.proofs.Common.{◌≡◌, ◌≢◌, ℕ, zero, suc, ◌+◌, ◌-◌, ◌<◌, ◌≤◌, ◌↔◌, List, [], ◌∷◌, ◌++◌}
use Rattle.std.proofs.Common.{refl, ap, sym, ◌∙◌, subst, arith, Bool, true, false, not, IsTrue, eqb}
use Rattle.std.proofs.Common.{ltb, inl, inr, ◌⊎◌}
use Rattle.std.specs.List.{flat_map, AllByRecursion, Contains}
use Rattle.std.proofs.lemmas.Bool.{cases_eq, cases_Bool, cond-true, cond-false, eq-eqb, ne_eqb}
use Rattle.std.proofs.lemmas.Bool.{or_left, or_cases, lt-ltb, ltb-true, not_from_true}
use Rattle.std.proofs.lemmas.Bool.{not_from_false, both_ways}
use Rattle.reg_model.specs.declared.span.Member.{Member}
use Rattle.tree_laws.specs.Numbers.{times, once, is_among}
use Rattle.tree_shape.specs.NodeData.{entries_of}
use Rattle.tree_laws.specs.Trees.{Contents, Branch, branches, nodes_under, nodes, within, leaving}
use Rattle.tree_laws.specs.Trees.{HasEntry}
use Rattle.tree_laws.specs.Lawful.{IsTree, IsOrdered, IsFilled, FitsParent}
use Rattle.tree_laws.specs.LocalChange.{IsLocalChange, either, live_after, reached_nodes}
use Rattle.tree_laws.proofs.Times.{In, all_at, all_from, all_times, times-append}
use Rattle.tree_laws.proofs.Times.{times_flat_map_from, flat_map_same}
use Rattle.tree_laws.proofs.Reach.{children, below, within_set, within_under, within_parent}
use Rattle.tree_laws.proofs.Reach.{within_top, under_top, reached_parts, same_within, same_under}
use Rattle.tree_laws.proofs.Living.{own_branches, Sound, goes_on, leaves_from, live_node, one_way}
use Rattle.tree_laws.proofs.Living.{root_live, child_live, child_fits, live_within, live_under}
use Rattle.tree_laws.proofs.Living.{sound_at, root_no_child, one_parent, own_child}
use Rattle.tree_laws.proofs.Leads.{contains_in, one_leaf}

-- all numbers but one
abbrev pub all_but : ℕ → ℕ → Bool
all_but top n = not (eqb n top)

all_but-false : (top n : ℕ) → all_but top n ≡ false → n ≡ top
all_but-false top n is = elim (cases_eq n top) [ inl e ↦ e | inr other ↦ absurd (both_ways (all_but top n) is (not_from_false (eqb n top) (ne_eqb n top other))) ]

all_but-true : (top n : ℕ) → IsTrue (all_but top n) → n ≢ top
all_but-true top n is e = both_ways (all_but top n) (not_from_true (eqb n top) (eq-eqb n top e)) is

-- a list of branches to one node, of which there is one
one_branch : (f : Contents) (top level : ℕ) (bs : List Branch) →
    ((b : Branch) → In b bs → (b.child ≡ top) × (b.frame.level ≡ level)) →
    times top (flat_map (below f) bs) ≡ 1 →
    (b : Branch) × ((bs ≡ b ∷ []) × ((b.child ≡ top) × (b.frame.level ≡ level)))
one_branch f top level [] each count = absurd (omega arith)
one_branch f top level (b ∷ []) each count = (b, (refl, each b (inl refl)))
one_branch f top level (b ∷ c ∷ bs) each count =
    let first : 0 < times top (below f b) =
    subst (λ n. 0 < times n (below f b)) (each b (inl refl)).0
    (under_top f b.frame.level b.child) in
    let second : 0 < times top (below f c) =
    subst (λ n. 0 < times n (below f c)) (each c (inr (inl refl))).0
    (under_top f c.frame.level c.child) in
    absurd (omega (arith, times-append top (below f b) (below f c ++ flat_map (below f) bs), times-append top (below f c) (flat_map (below f) bs)))

-- What stands around a live node that isn't the root: the numbers, and the one branch that leads to the node.
record Around (f : Contents) (top : ℕ) : Type 0 where
  branch : Branch
  exits : leaving (all_but top) f (f 0).level 0 ≡ branch ∷ []
  child : branch.child ≡ top
  level : branch.frame.level ≡ (f top).level

around : (f : Contents) (live : ℕ → Bool) → IsTree f live → (top : ℕ) → IsTrue (live top) → top ≢ 0 → Around f top
around f live tree top alive other =
    let sound = sound_at f live tree (all_but top) (f 0).level 0 (root_live f live tree) refl in
    let each : (b : Branch) → In b (leaving (all_but top) f (f 0).level 0) →
    (b.child ≡ top) × (b.frame.level ≡ (f top).level) =
    λ b there.
    let from = leaves_from (all_but top) f (f 0).level 0 sound refl b there in
    let child = all_but-false top b.child from.0 in
    let parent = live_within f live tree (all_but top) (f 0).level 0 (root_live f live tree) refl from.1.0 from.1.1.0 in
    (child, sym (child_fits f live tree from.1.0 parent b from.1.1.1).level ∙ ap (λ n. (f n).level) child) in
    let parts = reached_parts (all_but top) f top (f 0).level 0 in
    let absent : times top (within (all_but top) f (f 0).level 0) ≡ 0 =
    elim (cases_eq (times top (within (all_but top) f (f 0).level 0)) 0) [
      | inl none ↦ none
      | inr some ↦ elim (within_set (all_but top) f top (f 0).level 0 (omega arith)) [
        | inl e ↦ absurd (other e)
        | inr set ↦ absurd (all_but-true top top set refl)
      ]
    ] in
    let once' : times top (nodes f) ≡ 1 = omega (arith, live_node f live tree top alive, one_way f live tree top) in
    let one = one_branch f top (f top).level (leaving (all_but top) f (f 0).level 0) each (omega arith) in
    record { branch = one.0; exits = one.1.0; child = one.1.1.0; level = one.1.1.1 }

-- the numbers of the tree are those around the node and those below it
around_parts : (f : Contents) (top level : ℕ) (branch : Branch) →
    leaving (all_but top) f (f 0).level 0 ≡ branch ∷ [] → branch.child ≡ top →
    branch.frame.level ≡ level → (x : ℕ) →
    times x (nodes f) ≡ times x (within (all_but top) f (f 0).level 0) + times x (nodes_under f level top)
around_parts f top level branch exits child at x =
    let parts = reached_parts (all_but top) f x (f 0).level 0 in
    let whole : times x (flat_map (below f) (leaving (all_but top) f (f 0).level 0)) ≡ times x (below f branch ++ []) = ap (λ bs. times x (flat_map (below f) bs)) exits in
    let same : times x (below f branch) ≡ times x (nodes_under f level top) =
    ap (λ n. times x (nodes_under f branch.frame.level n)) child
    ∙ ap (λ l. times x (nodes_under f l top)) at in
    omega (arith, times-append x (below f branch) [])

-- what a live node reaches stands in the tree no more often than there
pub under_live : (f : Contents) (live : ℕ → Bool) → IsTree f live → (n : ℕ) → IsTrue (live n) → (x : ℕ) → times x (nodes_under f (f n).level n) ≤ times x (nodes f)
under_live f live tree n alive x = elim (cases_eq n 0) [
  | inl e ↦ let same : times x (nodes_under f (f n).level n) ≡ times x (nodes f) = ap (λ m. times x (nodes_under f (f m).level m)) e in omega arith
  | inr other ↦
      let place = around f live tree n alive other in
      omega (arith, around_parts f n (f n).level place.branch place.exits place.child place.level x)
]

-- the rest of the tree: the numbers of the old and of the new one without what the top reaches, none of them touched
record Rest (f g : Contents) (top : ℕ) (touched : ℕ → Bool) : Type 0 where
  others : List ℕ
  apart : (x : ℕ) → 0 < times x others → touched x ≡ false
  old : (x : ℕ) → times x (nodes f) ≡ times x others + times x (nodes_under f (f top).level top)
  new : (x : ℕ) → times x (nodes g) ≡ times x others + times x (nodes_under g (g top).level top)

-- what the top reaches after a local change is sound
pub sound_change : (f : Contents) (live : ℕ → Bool) (top : ℕ) (group fresh : ℕ → Bool)
    (g : Contents) →
    IsLocalChange f live top group fresh g → Sound (either group fresh) g (g top).level top
sound_change f live top group fresh g change = record {
  ordered = λ x there. all_times (λ n. IsOrdered (g n)) (reached_nodes top group fresh g) x
      change.ordered there;
  fitting = λ x there b own.
      all_at (λ (c : Branch). IsTrue (either group fresh c.child) → FitsParent g c)
      (own_branches g x) b
      (all_times (λ n. AllByRecursion (λ (c : Branch). IsTrue (either group fresh c.child) →
      FitsParent g c) (own_branches g n))
      (reached_nodes top group fresh g) x change.fitting there) own;
}

module _ (f : Contents) (live : ℕ → Bool) (top : ℕ) (group fresh : ℕ → Bool) (g : Contents) (tree : IsTree f live) (change : IsLocalChange f live top group fresh g) where
  group_touched : (x : ℕ) → IsTrue (group x) → IsTrue (either group fresh x)
  group_touched x inside = or_left (group x) (fresh x) inside

  top_touched : IsTrue (either group fresh top)
  top_touched = group_touched top change.top_grouped

  group_live : (x : ℕ) → IsTrue (group x) → IsTrue (live x)
  group_live x inside = live_within f live tree group (f top).level top change.top_live refl x (change.grouped x inside)

  -- a live node that is touched is in the group
  touched_group : (x : ℕ) → IsTrue (either group fresh x) → IsTrue (live x) → IsTrue (group x)
  touched_group x touched alive = elim (or_cases (group x) (fresh x) touched) [
    | inl inside ↦ inside
    | inr new ↦ absurd (both_ways (live x) (change.fresh_free x new) alive)
  ]

  untouched_stays : (x : ℕ) → either group fresh x ≡ false → g x ≡ f x
  untouched_stays x untouched = change.others_stay x untouched

  under_most : (x : ℕ) → times x (nodes_under f (f top).level top) ≤ times x (nodes f)
  under_most x = under_live f live tree top change.top_live x

  -- below the branches that leave the group nothing is touched
  rest_apart : (x : ℕ) → 0 < times x (flat_map (below f) (leaving group f (f top).level top)) → either group fresh x ≡ false
  rest_apart x there = elim (cases_Bool (either group fresh x)) [
    | inl touched ↦
        let parts = reached_parts group f x (f top).level top in
        let alive = live_under f live tree (f top).level top change.top_live refl x (omega arith) in
        let inside = change.grouped x (touched_group x touched alive) in
        absurd (omega (arith, under_most x, one_way f live tree x))
    | inr untouched ↦ untouched
  ]

  -- so it stays what it was
  rest_same : flat_map (below g) (leaving group f (f top).level top) ≡ flat_map (below f) (leaving group f (f top).level top)
  rest_same = flat_map_same (below g) (below f) (leaving group f (f top).level top)
      (λ b there. same_under f g b.frame.level b.child
      (λ x at. untouched_stays x (rest_apart x (omega (arith, times_flat_map_from (below f) (leaving group f (f top).level top) b x there)))))

  new_parts : (x : ℕ) → times x (nodes_under g (g top).level top)
      ≡ times x (within (either group fresh) g (g top).level top) + times x (flat_map (below f) (leaving group f (f top).level top))
  new_parts x =
      let parts = reached_parts (either group fresh) g x (g top).level top in
      let exits : times x (flat_map (below g) (leaving (either group fresh) g (g top).level top)) ≡ times x (flat_map (below f) (leaving group f (f top).level top)) =
      ap (λ bs. times x (flat_map (below g) bs)) change.exits ∙ ap (times x) rest_same in
      omega arith

  -- around the top nothing is touched
  around_apart : top ≢ 0 → (x : ℕ) → 0 < times x (within (all_but top) f (f 0).level 0) → either group fresh x ≡ false
  around_apart other x there = elim (cases_Bool (either group fresh x)) [
    | inl touched ↦
        let alive = live_within f live tree (all_but top) (f 0).level 0 (root_live f live tree) refl x there in
        let inside = change.grouped x (touched_group x touched alive) in
        let place = around f live tree top change.top_live other in
        let parts = around_parts f top (f top).level place.branch place.exits place.child place.level x in
        absurd (omega (arith, within_under group f x (f top).level top, one_way f live tree x))
    | inr untouched ↦ untouched
  ]

  rest : Rest f g top (either group fresh)
  rest = elim (cases_eq top 0) [
    | inl e ↦ record {
      others = [];
      apart = λ x none. absurd (omega arith);
      old = λ x. (let same : times x (nodes f) ≡ times x (nodes_under f (f top).level top) = ap (λ n. times x (nodes_under f (f n).level n)) (sym e) in omega arith);
      new = λ x. (let same : times x (nodes g) ≡ times x (nodes_under g (g top).level top) = ap (λ n. times x (nodes_under g (g n).level n)) (sym e) in omega arith);
    }
    | inr other ↦
        let place = around f live tree top change.top_live other in
        let agree : (x : ℕ) → 0 < times x (within (all_but top) f (f 0).level 0) → g x ≡ f x = λ x there. untouched_stays x (around_apart other x there) in
        let root : (g 0).level ≡ (f 0).level = ap (λ s. s.level) (agree 0 (within_top (all_but top) f (f 0).level 0)) in
        let same = same_within (all_but top) f g (f 0).level 0 agree in
        let exits : leaving (all_but top) g (g 0).level 0 ≡ place.branch ∷ [] = ap (λ l. leaving (all_but top) g l 0) root ∙ (same.1 ∙ place.exits) in
        let numbers : within (all_but top) g (g 0).level 0 ≡ within (all_but top) f (f 0).level 0 = ap (λ l. within (all_but top) g l 0) root ∙ same.0 in
        let level : place.branch.frame.level ≡ (g top).level = place.level
        ∙ sym (change.level other) in
        record {
          others = within (all_but top) f (f 0).level 0;
          apart = around_apart other;
          old = λ x. around_parts f top (f top).level place.branch place.exits place.child place.level x;
          new = λ x. (let e : times x (within (all_but top) g (g 0).level 0) ≡ times x (within (all_but top) f (f 0).level 0) = ap (times x) numbers in
              omega (arith, around_parts g top (g top).level place.branch exits place.child level x));
        }
  ]

  -- a test that is true where a number stands once
  among_once : (n : ℕ) → n ≤ 1 → n ≡ once (ltb 0 n)
  among_once zero most = refl
  among_once (suc zero) most = refl
  among_once (suc (suc n)) most = absurd (omega arith)

  -- the new tree's numbers are the new live nodes
  reached_after : (x : ℕ) → times x (nodes g) ≡ once (live_after live top group fresh g x)
  reached_after x =
      let left = rest in
      let old = left.old x in
      let new = left.new x in
      let middle = new_parts x in
      let parts = reached_parts group f x (f top).level top in
      elim (cases_Bool (either group fresh x)) [
        | inl touched ↦
            let no_other : times x left.others ≡ 0 = elim (cases_eq (times x left.others) 0) [
              | inl none ↦ none
              | inr some ↦ absurd (both_ways (either group fresh x) (left.apart x (omega arith)) touched)
            ] in
            let no_rest : times x (flat_map (below f) (leaving group f (f top).level top)) ≡ 0 = elim (cases_eq (times x (flat_map (below f) (leaving group f (f top).level top))) 0) [
              | inl none ↦ none
              | inr some ↦ absurd (both_ways (either group fresh x) (rest_apart x (omega arith)) touched)
            ] in
            let count : times x (nodes g) ≡ times x (within (either group fresh) g (g top).level top) = omega arith in
            count ∙ among_once (times x (within (either group fresh) g (g top).level top)) (change.reached_once x)
            ∙ ap once (sym (cond-true (either group fresh x) (is_among (within (either group fresh) g (g top).level top) x) (live x) touched))
        | inr untouched ↦
            let no_new : times x (within (either group fresh) g (g top).level top) ≡ 0 = elim (cases_eq (times x (within (either group fresh) g (g top).level top)) 0) [
              | inl none ↦ none
              | inr some ↦ elim (within_set (either group fresh) g x (g top).level top (omega arith)) [
                | inl e ↦ absurd (both_ways (either group fresh x) untouched (subst (λ n. IsTrue (either group fresh n)) (sym e) top_touched))
                | inr set ↦ absurd (both_ways (either group fresh x) untouched set)
              ]
            ] in
            let no_old : times x (within group f (f top).level top) ≡ 0 = elim (cases_eq (times x (within group f (f top).level top)) 0) [
              | inl none ↦ none
              | inr some ↦ elim (within_set group f x (f top).level top (omega arith)) [
                | inl e ↦ absurd (both_ways (either group fresh x) untouched (subst (λ n. IsTrue (either group fresh n)) (sym e) top_touched))
                | inr set ↦ absurd (both_ways (either group fresh x) untouched (group_touched x set))
              ]
            ] in
            let count : times x (nodes g) ≡ times x (nodes f) = omega arith in
            count ∙ tree.reached x ∙ ap once (sym (cond-false (either group fresh x) (is_among (within (either group fresh) g (g top).level top) x) (live x) untouched))
      ]

  -- a new live node is touched and reached, or was live and is what it was
  record WasLive (x : ℕ) : Type 0 where
    untouched : either group fresh x ≡ false
    alive : IsTrue (live x)
    stays : g x ≡ f x

  live_cases : (x : ℕ) → IsTrue (live_after live top group fresh g x) →
      (IsTrue (either group fresh x) × (0 < times x (within (either group fresh) g (g top).level top))) ⊎ WasLive x
  live_cases x alive = elim (cases_Bool (either group fresh x)) [
    | inl touched ↦
        let among : is_among (within (either group fresh) g (g top).level top) x ≡ true =
        sym (cond-true (either group fresh x) (is_among (within (either group fresh) g (g top).level top) x) (live x) touched) ∙ alive in
        inl (touched, ltb-true 0 (times x (within (either group fresh) g (g top).level top)) among)
    | inr untouched ↦ inr (record {
      untouched = untouched;
      alive = sym (cond-false (either group fresh x) (is_among (within (either group fresh) g (g top).level top) x) (live x) untouched) ∙ alive;
      stays = untouched_stays x untouched;
    })
  ]

  ordered_after : (x : ℕ) → IsTrue (live_after live top group fresh g x) → IsOrdered (g x)
  ordered_after x alive = elim (live_cases x alive) [
    | inl now ↦ all_times (λ n. IsOrdered (g n)) (within (either group fresh) g (g top).level top) x change.ordered now.1
    | inr was ↦ subst IsOrdered (sym was.stays) (tree.ordered x was.alive)
  ]

  sound_new : Sound (either group fresh) g (g top).level top
  sound_new = sound_change f live top group fresh g change

  -- a branch to a node that isn't touched fits as before
  fits_still : (b : Branch) → either group fresh b.child ≡ false → FitsParent f b → FitsParent g b
  fits_still b untouched fits =
      let same = untouched_stays b.child untouched in
      record {
        level = ap (λ s. s.level) same ∙ fits.level;
        low = ap (λ s. s.low) same ∙ fits.low;
        high = ap (λ s. s.high) same ∙ fits.high;
      }

  -- the children of an untouched node are untouched, or the top
  fits_outside : (x : ℕ) → WasLive x → (b : Branch) → In b (own_branches f x) → FitsParent g b
  fits_outside x was b own =
      let fits = child_fits f live tree x was.alive b own in
      let alive = child_live f live tree x was.alive b own in
      elim (cases_Bool (either group fresh b.child)) [
        | inr untouched ↦ fits_still b untouched fits
        | inl touched ↦
            let inside = touched_group b.child touched alive in
            elim (cases_eq b.child top) [
              | inl e ↦
                  let not_root : top ≢ 0 = λ z. root_no_child f live tree x was.alive (subst (λ n. 0 < times n (children f x)) (e ∙ z) (own_child f x b own)) in
                  record {
                    level = ap (λ n. (g n).level) e ∙ change.level not_root ∙ ap (λ n. (f n).level) (sym e) ∙ fits.level;
                    low = ap (λ n. (g n).low) e ∙ change.low ∙ ap (λ n. (f n).low) (sym e) ∙ fits.low;
                    high = ap (λ n. (g n).high) e ∙ change.high ∙ ap (λ n. (f n).high) (sym e) ∙ fits.high;
                  }
              | inr other ↦
                  let parent = within_parent group f b.child (f top).level top (change.grouped b.child inside) other in
                  let parent_live = live_within f live tree group (f top).level top change.top_live refl parent.0 parent.1.0 in
                  let same = one_parent f live tree x parent.0 b.child was.alive parent_live (own_child f x b own) parent.1.1 in
                  let parent_touched : IsTrue (either group fresh parent.0) = elim (within_set group f parent.0 (f top).level top parent.1.0) [
                    | inl e ↦ subst (λ n. IsTrue (either group fresh n)) (sym e) top_touched
                    | inr set ↦ group_touched parent.0 set
                  ] in
                  absurd (both_ways (either group fresh x) was.untouched (subst (λ n. IsTrue (either group fresh n)) (sym same) parent_touched))
            ]
      ]

  fitting_after : (x : ℕ) → IsTrue (live_after live top group fresh g x) →
      AllByRecursion (FitsParent g) (own_branches g x)
  fitting_after x alive = elim (live_cases x alive) [
    | inl now ↦ all_from (FitsParent g) (own_branches g x)
        (λ b own. elim (goes_on (either group fresh) g (g top).level top sound_new refl x now.1 b
        own) [
          | inl on ↦ sound_new.fitting x now.1 b own on.0
          | inr out ↦
              let left : In b (leaving group f (f top).level top) = subst (λ bs. In b bs) change.exits out.1 in
              let from = leaves_from group f (f top).level top (sound_at f live tree group (f top).level top change.top_live refl) refl b left in
              let parent = live_within f live tree group (f top).level top change.top_live refl from.1.0 from.1.1.0 in
              fits_still b out.0 (child_fits f live tree from.1.0 parent b from.1.1.1)
        ])
    | inr was ↦ subst (λ s. AllByRecursion (FitsParent g) (branches (s.level - 1) s))
        (sym was.stays) (all_from (FitsParent g) (own_branches f x) (fits_outside x was))
  ]

  -- the fences and the height of the root
  root_after : ((g 0).low ≡ (f 0).low) × ((g 0).high ≡ (f 0).high) × ((g 0).level ≤ 12)
  root_after = elim (cases_eq top 0) [
    | inl e ↦ subst (λ n. ((g n).low ≡ (f n).low) × ((g n).high ≡ (f n).high) × ((g n).level ≤ 12)) e (change.low, change.high, change.height e)
    | inr other ↦
        let same = untouched_stays 0 (around_apart other 0 (within_top (all_but top) f (f 0).level 0)) in
        let height = tree.height in
        (ap (λ s. s.low) same, ap (λ s. s.high) same, subst (λ s. s.level ≤ 12) (sym same) height)
  ]

  pub tree_after : IsTree g (live_after live top group fresh g)
  tree_after = record {
    root_low = root_after.0 ∙ tree.root_low;
    root_high = root_after.1 ∙ tree.root_high;
    height = root_after.2;
    reached = reached_after;
    ordered = ordered_after;
    fitting = fitting_after;
  }

  -- where the nodes that the top now reaches are filled, all are
  pub filled_after : ((n : ℕ) → IsTrue (live n) → either group fresh n ≡ false → IsFilled n (f n)) → AllByRecursion (λ n. IsFilled n (g n)) (within (either group fresh) g (g top).level top) →
      (x : ℕ) → IsTrue (live_after live top group fresh g x) → IsFilled x (g x)
  filled_after before now x alive = elim (live_cases x alive) [
    | inl here ↦ all_times (λ n. IsFilled n (g n)) (within (either group fresh) g (g top).level top) x now here.1
    | inr was ↦ subst (IsFilled x) (sym was.stays) (before x was.alive was.untouched)
  ]

  -- the entries
  entries_now : (m : Member) → HasEntry g (live_after live top group fresh g) m →
      (HasEntry f live m × ¬ HasEntry f group m) ⊎ HasEntry g (is_among (within (either group fresh) g (g top).level top)) m
  entries_now m (x, (alive, held)) = elim (live_cases x alive) [
    | inl now ↦ inr (x, (lt-ltb 0 (times x (within (either group fresh) g (g top).level top)) now.1, held))
    | inr was ↦
        let before : Contains (entries_of (f x)) m = subst (λ s. Contains (entries_of s) m) was.stays held in
        inl (
          (x, (was.alive, before)),
          λ other.
              let same = one_leaf f live tree x other.0 was.alive (group_live other.0 other.1.0) m (contains_in (entries_of (f x)) m before) (contains_in (entries_of (f other.0)) m other.1.1) in
              both_ways (either group fresh x) was.untouched (subst (λ n. IsTrue (either group fresh n)) (sym same) (group_touched other.0 other.1.0)),
        )
  ]

  entries_then : (m : Member) → (HasEntry f live m × ¬ HasEntry f group m) ⊎ HasEntry g (is_among (within (either group fresh) g (g top).level top)) m →
      HasEntry g (live_after live top group fresh g) m
  entries_then m h = elim h [
    | inl kept ↦ elim (cases_Bool (either group fresh kept.0.0)) [
      | inl touched ↦ absurd (kept.1 (kept.0.0, (touched_group kept.0.0 touched kept.0.1.0, kept.0.1.1)))
      | inr untouched ↦ (
        kept.0.0,
        (
          cond-false (either group fresh kept.0.0) (is_among (within (either group fresh) g (g top).level top) kept.0.0) (live kept.0.0) untouched ∙ kept.0.1.0,
          subst (λ s. Contains (entries_of s) m) (sym (untouched_stays kept.0.0 untouched)) kept.0.1.1,
        ),
      )
    ]
    | inr new ↦
        let touched : IsTrue (either group fresh new.0) = elim (within_set (either group fresh) g new.0 (g top).level top (ltb-true 0 (times new.0 (within (either group fresh) g (g top).level top)) new.1.0)) [
          | inl e ↦ subst (λ n. IsTrue (either group fresh n)) (sym e) top_touched
          | inr set ↦ set
        ] in
        (new.0, (cond-true (either group fresh new.0) (is_among (within (either group fresh) g (g top).level top) new.0) (live new.0) touched ∙ new.1.0, new.1.1))
  ]

  pub entries_after : (m : Member) → HasEntry g (live_after live top group fresh g) m ↔
      ((HasEntry f live m × ¬ HasEntry f group m) ⊎ HasEntry g (is_among (within (either group fresh) g (g top).level top)) m)
  entries_after m = (entries_now m, entries_then m)

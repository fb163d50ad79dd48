-- The law of a moved fence.
use Rattle.std.proofs.Common.{◌≡◌, ◌≢◌, ℕ, zero, suc, ◌+◌, ◌-◌, ◌<◌, ◌≤◌, List, [], ◌∷◌, ◌++◌}
use Rattle.std.proofs.Common.{length, map, refl, ap, sym, ◌∙◌, subst, arith, Bool, true, IsTrue}
use Rattle.std.proofs.Common.{eqb, inl, inr}
use Rattle.std.specs.List.{flat_map, AllByRecursion, Contains}
use Rattle.std.proofs.lemmas.Bool.{cases_eq}
use Rattle.std.proofs.lemmas.List.{length-append, length-map}
use Rattle.std.proofs.lemmas.List.Concat.{flat_map-append}
use Rattle.tree_shape.specs.declared.pair.Pair.{Pair}
use Rattle.tree_laws.specs.Numbers.{times, once}
use Rattle.tree_shape.specs.NodeData.{NodeData, Body, Pairs, Entries, Link, entries_of, entries_in}
use Rattle.tree_shape.specs.NodeData.{pairs_of, Cut}
use Rattle.tree_shape.specs.Changes.{at_slot, separate_at, ends_at, ends_at_fence, begins_after}
use Rattle.tree_laws.specs.Trees.{Contents, Branch, branch, branches_from, branches, nodes_under}
use Rattle.tree_laws.specs.Trees.{nodes}
use Rattle.tree_laws.specs.Trees.{within}
use Rattle.tree_laws.specs.Lawful.{IsTree, IsLawfulTree, IsOrdered, IsFilled, IsFilledAs}
use Rattle.tree_laws.specs.Lawful.{FitsParent}
use Rattle.tree_laws.specs.Steps.{Keeps, IsFenceMove, last_spine, first_spine, LiesAbove}
use Rattle.tree_laws.proofs.Times.{In, in_append, in_left, in_right, all_at, all_from, all_times}
use Rattle.tree_laws.proofs.Times.{once_same, times-append, times_flat_map_from, flat_map_same}
use Rattle.tree_laws.proofs.Reach.{children, within_parent, under_within}
use Rattle.tree_laws.proofs.Living.{own_branches, one_way, root_no_child, child_fits, live_within}
use Rattle.tree_laws.proofs.Living.{one_parent, own_child}
use Rattle.tree_laws.proofs.Local.{under_live}
use Rattle.tree_laws.proofs.Runs.{next_low, branches-append}
use Rattle.tree_laws.proofs.Slotted.{filled_pairs}
use Rattle.tree_laws.proofs.Joins.{Neighbours, neighbours, cut_separated}
use Rattle.tree_shape.proofs.Slots.{some_left}
use Rattle.tree_laws.proofs.Spines.{Stands, stands_live, stands_same, stands_says, first_top}
use Rattle.tree_laws.proofs.Spines.{last_under, first_under, left_stands, right_stands}

-- the children's numbers, and how much a node holds, stay
separated_numbers : (fence slot : ℕ) (pairs : List Pair) → map (λ (p : Pair). p.child) (at_slot (separate_at fence) slot pairs) ≡ map (λ (p : Pair). p.child) pairs
separated_numbers fence slot [] = refl
separated_numbers fence zero (p ∷ pairs) = refl
separated_numbers fence (suc slot) (p ∷ pairs) = ap (λ l. p.child ∷ l) (separated_numbers fence slot pairs)

raised_numbers : (fence : ℕ) (pairs : List Pair) → map (λ (p : Pair). p.child) (ends_at fence pairs) ≡ map (λ (p : Pair). p.child) pairs
raised_numbers fence [] = refl
raised_numbers fence (p ∷ []) = refl
raised_numbers fence (p ∷ q ∷ pairs) = ap (λ l. p.child ∷ l) (raised_numbers fence (q ∷ pairs))

-- A shape that is as another but for its fences and separators.
pub record Alike (s t : NodeData) : Type 0 where
  pub level : t.level ≡ s.level
  pub numbers : map (λ (p : Pair). p.child) (pairs_of t) ≡ map (λ (p : Pair). p.child) (pairs_of s)
  pub members : entries_of t ≡ entries_of s
  pub filled : (n : ℕ) → IsFilled n s → IsFilled n t

alike_raised : (s : NodeData) (fence : ℕ) → Alike s (ends_at_fence fence s)
alike_raised s fence = by_body s.body
  where
    by_body : (b : Body) → Alike (record s { body = b }) (ends_at_fence fence (record s { body = b }))
    by_body (Pairs pairs) =
        let len : length (ends_at fence pairs) ≡ length pairs = lengths (ends_at fence pairs) pairs (raised_numbers fence pairs) in
        record { level = refl; numbers = raised_numbers fence pairs; members = refl; filled = λ n filled. (omega (arith, filled.0), omega (arith, filled.1)) }
      where
        lengths : (xs ys : List Pair) → map (λ (p : Pair). p.child) xs ≡ map (λ (p : Pair). p.child) ys → length xs ≡ length ys
        lengths xs ys e = sym (length-map xs (λ (p : Pair). p.child)) ∙ ap length e ∙ length-map ys (λ (p : Pair). p.child)
    by_body (Entries es) = record { level = refl; numbers = refl; members = refl; filled = λ n filled. filled }
    by_body (Link next) = record { level = refl; numbers = refl; members = refl; filled = λ n filled. filled }

alike_after : (s : NodeData) (fence : ℕ) → Alike s (begins_after fence s)
alike_after s fence = record { level = refl; numbers = refl; members = refl; filled = λ n filled. filled }

alike_same : (s : NodeData) → Alike s s
alike_same s = record { level = refl; numbers = refl; members = refl; filled = λ n filled. filled }

-- below contents that are alike stand the same nodes
flat_numbers : (h : ℕ → List ℕ) (level low : ℕ) (pairs : List Pair) → flat_map (λ (b : Branch). h b.child) (branches_from level low pairs) ≡ flat_map h (map (λ (p : Pair). p.child) pairs)
flat_numbers h level low [] = refl
flat_numbers h level low (p ∷ pairs) = ap (λ l. h p.child ++ l) (flat_numbers h level (p.separator + 1) pairs)

same_nodes : (f g : Contents) → ((x : ℕ) → Alike (f x) (g x)) → (level n : ℕ) → nodes_under g level n ≡ nodes_under f level n
same_nodes f g alike zero n = refl
same_nodes f g alike (suc level) n =
    ap (λ l. n ∷ l) (
    flat_numbers (nodes_under g level) level (g n).low (pairs_of (g n))
    ∙ ap (flat_map (nodes_under g level)) (alike n).numbers
    ∙ flat_map_same (nodes_under g level) (nodes_under f level) (map (λ (p : Pair). p.child) (pairs_of (f n))) (λ x there. same_nodes f g alike level x)
    ∙ sym (flat_numbers (nodes_under f level) level (f n).low (pairs_of (f n))))

-- below a node that isn't the root the root doesn't stand
no_root_below : (f : Contents) (live : ℕ → Bool) → IsTree f live → (level n : ℕ) → IsTrue (live n) → (f n).level ≡ level → n ≢ 0 → (x : ℕ) → 0 < times x (nodes_under f level n) → x ≢ 0
no_root_below f live tree level n alive at below x there e =
    let there' : 0 < times x (within (λ _. true) f level n) = subst (λ l. 0 < times x l) (under_within f level n) there in
    elim (cases_eq x n) [
      | inl same ↦ below (sym same ∙ e)
      | inr other ↦
          let parent = within_parent (λ _. true) f x level n there' other in
          root_no_child f live tree parent.0 (live_within f live tree (λ _. true) level n alive at parent.0 parent.1.0) (subst (λ y. 0 < times y (children f parent.0)) e parent.1.1)
    ]

module _ (f : Contents) (live : ℕ → Bool) (lawful : IsLawfulTree f live) (n slot : ℕ) (p q : Pair)
    (fence : ℕ) (g : Contents) (move : IsFenceMove f live n slot p q fence g) where
  abbrev tree : IsTree f live
  tree = lawful.tree

  pub at : Neighbours f live n slot p q
  at = neighbours f live tree n slot p q move.live_parent move.at move.next

  abbrev pub level : ℕ
  level = at.left.level

  abbrev pub left_spine : List ℕ
  left_spine = last_spine f (f p.child).level p.child

  abbrev pub right_spine : List ℕ
  right_spine = first_spine f (f q.child).level q.child

  abbrev pub under : Branch → List ℕ
  under b = nodes_under f level b.child

  abbrev pub one : Branch
  one = branch p.child level (next_low (f n).low at.front) p.separator

  abbrev pub two : Branch
  two = branch q.child level (p.separator + 1) q.separator

  abbrev pub one' : Branch
  one' = branch p.child level (next_low (f n).low at.front) fence

  abbrev pub two' : Branch
  two' = branch q.child level (fence + 1) q.separator

  abbrev new : List Branch
  new = branches_from level (f n).low at.front ++ (one' ∷ two' ∷ branches_from level (q.separator + 1) at.back)

  pub left_level : (f p.child).level ≡ level
  left_level = at.left.fits.level

  pub right_level : (f q.child).level ≡ level
  right_level = at.fits.level

  left_order : (f p.child).low ≤ (f p.child).high
  left_order = let order = at.left_order in let low = at.left.fits.low in let high = at.left.fits.high in omega arith

  right_order : (f q.child).low ≤ (f q.child).high
  right_order = let order = at.right_order in let low = at.fits.low in let high = at.fits.high in omega arith

  pub left_before : Stands f level p.child (f p.child).low (f p.child).high
  left_before = stands_live f live tree level p.child at.left.alive left_level left_order

  pub right_before : Stands f level q.child (f q.child).low (f q.child).high
  right_before = stands_live f live tree level q.child at.alive right_level right_order

  pub left_in : (x : ℕ) → times x left_spine ≤ times x (nodes_under f level p.child)
  left_in x = let same : times x left_spine ≡ times x (last_spine f level p.child) = ap (λ l. times x (last_spine f l p.child)) left_level in
      omega (arith, last_under f level p.child (f p.child).low (f p.child).high left_before x)

  pub right_in : (x : ℕ) → times x right_spine ≤ times x (nodes_under f level q.child)
  right_in x = let same : times x right_spine ≡ times x (first_spine f level q.child) = ap (λ l. times x (first_spine f l q.child)) right_level in
      omega (arith, first_under f level q.child (f q.child).low (f q.child).high right_before x)

  -- the nodes below the parent, part by part, each once
  pub parts : (x : ℕ) →
      once (eqb x n) + (times x (flat_map under (branches_from level (f n).low at.front))
      + (times x (nodes_under f level p.child) + (times x (nodes_under f level q.child) + times x (flat_map under (branches_from level (q.separator + 1) at.back))))) ≤ 1
  parts x =
      let whole : times x (nodes_under f (suc level) n) ≤ times x (nodes f) = part_of_whole x in
      let split : times x (flat_map under (branches level (f n)))
      ≡ times x (flat_map under (branches_from level (f n).low at.front)) + (times x (nodes_under f level p.child) + (times x (nodes_under f level q.child) + times x (flat_map under (branches_from level (q.separator + 1) at.back)))) =
      ap (λ bs. times x (flat_map under bs)) at.left.before
      ∙ ap (times x) (flat_map-append under (branches_from level (f n).low at.front) (one ∷ two ∷ branches_from level (q.separator + 1) at.back))
      ∙ times-append x (flat_map under (branches_from level (f n).low at.front)) (nodes_under f level p.child ++ (nodes_under f level q.child ++ flat_map under (branches_from level (q.separator + 1) at.back)))
      ∙ ap (λ k. times x (flat_map under (branches_from level (f n).low at.front)) + k)
      (times-append x (nodes_under f level p.child) (nodes_under f level q.child ++ flat_map under (branches_from level (q.separator + 1) at.back))
      ∙ ap (λ k. times x (nodes_under f level p.child) + k) (times-append x (nodes_under f level q.child) (flat_map under (branches_from level (q.separator + 1) at.back)))) in
      omega (arith, one_way f live tree x)
    where
      part_of_whole : (x : ℕ) → times x (nodes_under f (suc level) n) ≤ times x (nodes f)
      part_of_whole x = subst (λ l. times x (nodes_under f l n) ≤ times x (nodes f)) at.left.at (under_live f live tree n move.live_parent x)

  out_of : (x : ℕ) → times x (nodes_under f level p.child) ≡ 0 → times x (nodes_under f level q.child) ≡ 0 → x ≢ n → g x ≡ f x
  out_of x not_left not_right other = move.others x other (omega (arith, left_in x)) (omega (arith, right_in x))

  pub not_parent : (x : ℕ) →
      0 < times x (flat_map under (branches_from level (f n).low at.front)) + (times x
      (nodes_under f level p.child) + (times x (nodes_under f level q.child) + times x
      (flat_map under (branches_from level (q.separator + 1) at.back)))) → x ≢ n
  not_parent x some e =
      let one : once (eqb x n) ≡ 1 = ap (λ y. once (eqb x y)) (sym e) ∙ once_same x in
      omega (arith, parts x)

  left_now : Stands g level p.child (f p.child).low fence
  left_now = left_stands f g fence level p.child (f p.child).low (f p.child).high left_before move.raised
      (λ x there. all_times (λ y. g y ≡ ends_at_fence fence (f y)) left_spine x move.left (subst (λ l. 0 < times x (last_spine f l p.child)) (sym left_level) there))
      (λ x there none. move.others x (not_parent x (omega arith))
      (subst (λ l. times x (last_spine f l p.child) ≡ 0) (sym left_level) none)
      (omega (arith, parts x, right_in x)))
      (λ x. omega (arith, parts x))

  right_now : Stands g level q.child (fence + 1) (f q.child).high
  right_now = right_stands f g fence level q.child (f q.child).low (f q.child).high right_before
      (subst (λ l. AllByRecursion (λ y. (fence < (f y).high) × LiesAbove fence (f y).body) (first_spine f l q.child)) right_level move.below)
      (λ x there. all_times (λ y. g y ≡ begins_after fence (f y)) right_spine x move.right
      (subst (λ l. 0 < times x (first_spine f l q.child)) (sym right_level) there))
      (λ x there none. move.others x (not_parent x (omega arith))
      (omega (arith, parts x, left_in x))
      (subst (λ l. times x (first_spine f l q.child) ≡ 0) (sym right_level) none))
      (λ x. omega (arith, parts x))

  fence_below : fence < q.separator
  fence_below =
      let low = all_times (λ y. (fence < (f y).high) × LiesAbove fence (f y).body) right_spine
      q.child move.below (first_top f (f q.child).level q.child) in
      let high = at.fits.high in omega (arith, low.0)

  fence_above : next_low (f n).low at.front ≤ fence
  fence_above = let raised = move.raised in let high = at.left.fits.high in let order = at.left_order in omega arith

  pairs_now : pairs_of (g n) ≡ at.front ++ separate_at fence p (q ∷ at.back)
  pairs_now = ap pairs_of move.above ∙ at.changed (separate_at fence)

  pub branches_now : branches level (g n) ≡ branches_from level (f n).low at.front
      ++ (branch p.child level (next_low (f n).low at.front) fence ∷ branch q.child level
      (fence + 1) q.separator ∷ branches_from level (q.separator + 1) at.back)
  branches_now = ap (branches_from level (g n).low) pairs_now ∙ ap (λ l. branches_from level l (at.front ++ separate_at fence p (q ∷ at.back))) (ap (λ s. s.low) move.above)
      ∙ branches-append level (f n).low at.front (separate_at fence p (q ∷ at.back))

  whole_order : (f n).low ≤ (f n).high
  whole_order = some_left (f n).low (f n).high (at.front ++ p ∷ q ∷ at.back) at.cut.1 (omega (arith, length-append at.front (p ∷ q ∷ at.back)))

  parent_before : Stands f (suc level) n (f n).low (f n).high
  parent_before = stands_live f live tree (suc level) n move.live_parent at.left.at whole_order

  child_before : (b : Branch) → In b (branches level (f n)) →
      Stands f level b.child b.frame.low b.frame.high
  unfolding Stands
  child_before b there = all_at (λ c. Stands f level c.child c.frame.low c.frame.high)
      (branches level (f n)) b parent_before.1 there

  parent_now : Stands g (suc level) n (f n).low (f n).high
  unfolding Stands
  parent_now = (
    (
      ap (λ s. s.level) move.above ∙ at.left.at,
      ap (λ s. s.low) move.above,
      ap (λ s. s.high) move.above,
      subst IsOrdered (sym move.above) (
        at.cut.0,
        subst (λ ps. Cut (f n).low (f n).high ps) (sym (at.changed (separate_at fence)))
            (cut_separated (f n).low (f n).high at.front at.back p q fence at.cut.1 fence_above fence_below),
      ),
      whole_order,
    ),
    subst (AllByRecursion (λ b. Stands g level b.child b.frame.low b.frame.high)) (sym branches_now)
        (all_from (λ b. Stands g level b.child b.frame.low b.frame.high) new
        (λ b there. each b there)),
  )
    where
      in_before : (b : Branch) →
          In b (branches_from level (f n).low
          at.front ++ (branch p.child level (next_low (f n).low at.front) p.separator ∷ branch
          q.child level (p.separator + 1) q.separator ∷ branches_from level (q.separator + 1)
          at.back)) →
          In b (branches level (f n))
      in_before b there = subst (λ bs. In b bs) (sym at.left.before) there

      in_front : (b : Branch) → In b (branches_from level (f n).low at.front) →
          Stands g level b.child b.frame.low b.frame.high
      in_front b there = stands_same f g level b.child b.frame.low b.frame.high
          (λ x here.
          let brought = times_flat_map_from under (branches_from level (f n).low at.front) b x there in
          out_of x (omega (arith, parts x)) (omega (arith, parts x)) (not_parent x (omega arith)))
          (child_before b (in_before b (in_left (branches_from level (f n).low at.front) _ b there)))

      in_back : (b : Branch) → In b (branches_from level (q.separator + 1) at.back) →
          Stands g level b.child b.frame.low b.frame.high
      in_back b there = stands_same f g level b.child b.frame.low b.frame.high
          (λ x here.
          let brought = times_flat_map_from under (branches_from level (q.separator + 1) at.back) b x there in
          out_of x (omega (arith, parts x)) (omega (arith, parts x)) (not_parent x (omega arith)))
          (child_before b (in_before b (in_right (branches_from level (f n).low at.front) _ b (inr (inr there)))))

      each : (b : Branch) → In b new → Stands g level b.child b.frame.low b.frame.high
      each b there = elim (in_append (branches_from level (f n).low at.front) (one' ∷ two' ∷ branches_from level (q.separator + 1) at.back) b there) [
        | inl front ↦ in_front b front
        | inr later ↦ elim later [
          | inl e ↦ subst (λ (c : Branch). Stands g level c.child c.frame.low c.frame.high) e
              (subst (λ l. Stands g level p.child l fence) at.left.fits.low left_now)
          | inr more ↦ elim more [
            | inl e ↦ subst (λ (c : Branch). Stands g level c.child c.frame.low c.frame.high) e
                (subst (λ h. Stands g level q.child (fence + 1) h) at.fits.high right_now)
            | inr back ↦ in_back b back
          ]
        ]
      ]

  -- all contents are alike
  pub alike : (x : ℕ) → Alike (f x) (g x)
  alike x = elim (cases_eq x n) [
    | inl e ↦ subst (λ y. Alike (f y) (g y)) (sym e) (subst (Alike (f n)) (sym move.above) separated)
    | inr other ↦ elim (cases_eq (times x left_spine) 0) [
      | inr some ↦ subst (Alike (f x)) (sym (all_times (λ y. g y ≡ ends_at_fence fence (f y)) left_spine x move.left (omega arith))) (alike_raised (f x) fence)
      | inl not_left ↦ elim (cases_eq (times x right_spine) 0) [
        | inr some ↦ subst (Alike (f x))
            (sym (all_times (λ y. g y ≡ begins_after fence (f y)) right_spine x move.right
            (omega arith))) (alike_after (f x) fence)
        | inl not_right ↦ subst (Alike (f x)) (sym (move.others x other not_left not_right)) (alike_same (f x))
      ]
    ]
  ]
    where
      body : (f n).body ≡ Pairs (pairs_of (f n))
      body = filled_pairs n (f n) (lawful.filled n move.live_parent) (omega (arith, at.count))

      separated : Alike (f n) (record { level = (f n).level; low = (f n).low; high = (f n).high; body = Pairs (at_slot (separate_at fence) slot (pairs_of (f n))) })
      separated = record {
        level = refl;
        numbers = separated_numbers fence slot (pairs_of (f n));
        members = sym (ap entries_in body);
        filled = λ m filled. (let f' = subst (IsFilledAs m) body filled in
            let len : length (at_slot (separate_at fence) slot (pairs_of (f n))) ≡ length (pairs_of (f n)) =
            sym (length-map (at_slot (separate_at fence) slot (pairs_of (f n))) (λ (r : Pair). r.child)) ∙ ap length (separated_numbers fence slot (pairs_of (f n))) ∙ length-map (pairs_of (f n)) (λ (r : Pair). r.child) in
            (omega (arith, f'.0), omega (arith, f'.1)));
      }

  nodes_now : (l m : ℕ) → nodes_under g l m ≡ nodes_under f l m
  nodes_now l m = same_nodes f g alike l m

  abbrev below_parent : List ℕ
  below_parent = nodes_under f (suc level) n

  -- what doesn't stand below the parent stays
  outside : (x : ℕ) → times x below_parent ≡ 0 → g x ≡ f x
  outside x none =
      let split : times x below_parent ≡ once (eqb x n) + times x (flat_map under (branches level (f n))) = refl in
      let p_in = times_flat_map_from under (branches level (f n))
      (branch p.child level (next_low (f n).low at.front) p.separator) x
      (subst (λ bs. In (branch p.child level (next_low (f n).low at.front) p.separator) bs)
      (sym at.left.before) (in_right (branches_from level (f n).low at.front) _ _ (inl refl)))
      in
      let q_in = times_flat_map_from under (branches level (f n))
      (branch q.child level (p.separator + 1) q.separator) x
      (subst (λ bs. In (branch q.child level (p.separator + 1) q.separator) bs) (sym at.left.before)
      (in_right (branches_from level (f n).low at.front) _ _ (inr (inl refl)))) in
      out_of x (omega arith) (omega arith) (λ e. let one : once (eqb x n) ≡ 1 = ap (λ y. once (eqb x y)) (sym e) ∙ once_same x in absurd (omega arith))

  says : (x : ℕ) → 0 < times x below_parent →
      IsOrdered (g x) × ((b : Branch) → In b (own_branches g x) → FitsParent g b)
  says x there = stands_says g (suc level) n (f n).low (f n).high parent_now x (subst (λ l. 0 < times x l) (sym (nodes_now (suc level) n)) there)

  fits_outside : (x : ℕ) → IsTrue (live x) → times x below_parent ≡ 0 → (b : Branch) →
      In b (own_branches f x) → FitsParent g b
  fits_outside x alive none b own =
      let fits = child_fits f live tree x alive b own in
      elim (cases_eq (times b.child below_parent) 0) [
        | inl apart ↦
            let same = outside b.child apart in
            record { level = ap (λ s. s.level) same ∙ fits.level; low = ap (λ s. s.low) same ∙ fits.low; high = ap (λ s. s.high) same ∙ fits.high }
        | inr some ↦ elim (cases_eq b.child n) [
          | inl e ↦ record {
            level = ap (λ y. (g y).level) e ∙ ap (λ s. s.level) move.above ∙ ap (λ y. (f y).level) (sym e) ∙ fits.level;
            low = ap (λ y. (g y).low) e ∙ ap (λ s. s.low) move.above ∙ ap (λ y. (f y).low) (sym e) ∙ fits.low;
            high = ap (λ y. (g y).high) e ∙ ap (λ s. s.high) move.above ∙ ap (λ y. (f y).high) (sym e) ∙ fits.high;
          }
          | inr other ↦
              let there : 0 < times b.child (within (λ _. true) f (suc level) n) = subst (λ l. 0 < times b.child l) (under_within f (suc level) n) (omega arith) in
              let parent = within_parent (λ _. true) f b.child (suc level) n there other in
              let parent_live = live_within f live tree (λ _. true) (suc level) n move.live_parent at.left.at parent.0 parent.1.0 in
              let same = one_parent f live tree x parent.0 b.child alive parent_live (own_child f x b own) parent.1.1 in
              let inside : 0 < times parent.0 below_parent = subst (λ l. 0 < times parent.0 l) (sym (under_within f (suc level) n)) parent.1.0 in
              let same_count : times x below_parent ≡ times parent.0 below_parent = ap (λ y. times y below_parent) same in
              absurd (omega arith)
        ]
      ]

  root_stays : ((g 0).low ≡ (f 0).low) × ((g 0).high ≡ (f 0).high)
  root_stays = elim (cases_eq 0 n) [
    | inl e ↦ subst (λ y. ((g y).low ≡ (f y).low) × ((g y).high ≡ (f y).high)) (sym e) (ap (λ s. s.low) move.above, ap (λ s. s.high) move.above)
    | inr other ↦
        let same = out_of 0
        (elim (cases_eq (times 0 (nodes_under f level p.child)) 0) [ inl none ↦ none | inr some ↦ absurd (no_root_below f live tree level p.child at.left.alive left_level at.left.no_root 0 (omega arith) refl) ])
        (elim (cases_eq (times 0 (nodes_under f level q.child)) 0) [ inl none ↦ none | inr some ↦ absurd (no_root_below f live tree level q.child at.alive right_level at.no_root 0 (omega arith) refl) ])
        other in
        (ap (λ s. s.low) same, ap (λ s. s.high) same)
  ]

  pub move_keeps : Keeps f live g live
  move_keeps = record {
    lawful = record {
      tree = record {
        root_low = root_stays.0 ∙ tree.root_low;
        root_high = root_stays.1 ∙ tree.root_high;
        height = (let same = (alike 0).level in let height = tree.height in omega arith);
        reached = λ x. ap (times x) (ap (λ l. nodes_under g l 0) (alike 0).level ∙ nodes_now (f 0).level 0) ∙ tree.reached x;
        ordered = λ x alive. elim (cases_eq (times x below_parent) 0) [
          | inl none ↦ subst IsOrdered (sym (outside x none)) (tree.ordered x alive)
          | inr some ↦ (says x (omega arith)).0
        ];
        fitting = λ x alive. elim (cases_eq (times x below_parent) 0) [
          | inl none ↦ subst (λ s. AllByRecursion (FitsParent g) (branches (s.level - 1) s))
              (sym (outside x none))
              (all_from (FitsParent g) (own_branches f x) (fits_outside x alive none))
          | inr some ↦ all_from (FitsParent g) (own_branches g x) (says x (omega arith)).1
        ];
      };
      filled = λ x alive. (alike x).filled x (lawful.filled x alive);
    };
    entries = λ m. (
      λ (x, h). (x, (h.0, subst (λ es. Contains es m) (alike x).members h.1)),
      λ (x, h). (x, (h.0, subst (λ es. Contains es m) (sym (alike x).members) h.1)),
    );
  }

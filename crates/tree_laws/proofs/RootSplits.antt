-- The law of the root that is lifted and split in one step.
use Rattle.std.proofs.Common.{◌≡◌, ◌≢◌, ℕ, zero, suc, ◌+◌, ◌<◌, ◌≤◌, [], ◌∷◌, ◌++◌, map, refl, ap}
use Rattle.std.proofs.Common.{sym, ◌∙◌, subst, arith, Bool, true, false, IsTrue, eqb, inl, inr}
use Rattle.std.proofs.Common.{Some}
use Rattle.std.specs.Prelude.{None}
use Rattle.std.specs.List.{flat_map, AllByRecursion, slice_get}
use Rattle.std.proofs.lemmas.Bool.{cases_eq, cases_Bool, or_right, or_parts, or_from, both_ways}
use Rattle.std.proofs.lemmas.List.{append-nil}
use Rattle.std.proofs.Math.Numerals.{add-one}
use Rattle.reg_model.specs.declared.span.Member.{Member}
use Rattle.tree_shape.specs.declared.pair.Pair.{Pair}
use Rattle.tree_laws.specs.Numbers.{times, is_among}
use Rattle.tree_shape.specs.NodeData.{NodeData, Pairs, entries_of, pairs_of}
use Rattle.tree_shape.specs.Changes.{first_half, last_half, first_part, body_end, at_slot, divide}
use Rattle.tree_laws.specs.Trees.{Contents, Branch, branch, branches, within, leaving, HasEntry}
use Rattle.tree_laws.specs.Lawful.{IsLawfulTree, IsOrdered, IsFilled, FitsParent}
use Rattle.tree_laws.specs.LocalChange.{IsLocalChange, IsChangeOf, either, reached_nodes}
use Rattle.tree_laws.specs.Steps.{Keeps, IsLift, IsSplit, IsRootSplit, with_node, middle}
use Rattle.tree_laws.proofs.Times.{In, some_same, all_from, all_among, in_append, in_left}
use Rattle.tree_laws.proofs.Times.{in_right, times_head, once_other, once_most}
use Rattle.tree_laws.proofs.Living.{own_branches, own_at, root_live, root_no_child, child_live}
use Rattle.tree_laws.proofs.Living.{own_child}
use Rattle.tree_laws.proofs.Leads.{contains_in, in_contains}
use Rattle.tree_laws.proofs.Runs.{CutsTo, cuts}
use Rattle.tree_laws.proofs.Family.{alone, two_levels, exits_of}
use Rattle.tree_laws.proofs.Listed.{keeps_now, with_fresh, with_itself, with_other}
use Rattle.tree_laws.proofs.Halves.{among, not_among, not_one, only, two_of, second, third}
use Rattle.tree_laws.proofs.Halves.{full_middle, halves_filled}
use Rattle.tree_laws.proofs.Roots.{exit_own, own_exit}

module _ (f : Contents) (live : ℕ → Bool) (lawful : IsLawfulTree f live) (a r : ℕ) (g : Contents)
    (split : IsRootSplit f live a r g) where
  abbrev level : ℕ
  level = (f 0).level

  abbrev fence : ℕ
  fence = body_end (first_part (middle (f 0).body) (f 0).body)

  abbrev group : ℕ → Bool
  group = is_among (0 ∷ [])

  abbrev fresh : ℕ → Bool
  fresh = is_among (a ∷ r ∷ [])

  abbrev one : Branch
  one = branch a level ((f 0).low) fence

  abbrev two : Branch
  two = branch r level (fence + 1) ((f 0).high)

  root : IsTrue (live 0)
  root = root_live f live lawful.tree

  is_free : (x : ℕ) → IsTrue (fresh x) → live x ≡ false
  is_free x new' = all_among (λ y. live y ≡ false) (a ∷ r ∷ []) x (
    split.free_left,
    (split.free_right, tt),
  ) new'

  a_below : a ≢ 0
  a_below e = both_ways (live a) split.free_left (subst (λ y. IsTrue (live y)) (sym e) root)

  r_below : r ≢ 0
  r_below e = both_ways (live r) split.free_right (subst (λ y. IsTrue (live y)) (sym e) root)

  pieces : CutsTo (f 0) (g a) (g r)
  pieces =
      let s = f 0 in
      let mid = full_middle s.body split.full in
      let halves = cuts (middle s.body) s.level s.low s.high s.body (lawful.tree.ordered 0 root)
      mid.0 mid.1 in
      subst (λ x. CutsTo s x (g r)) (sym split.first)
      (subst (λ x. CutsTo s (first_half (middle s.body) s) x) (sym split.last) halves)

  -- the old root's children aren't touched
  child_apart : (c : Branch) → In c (own_branches f 0) →
      (group c.child ≡ false) × (either group fresh c.child ≡ false)
  child_apart c own =
      let alive = child_live f live lawful.tree 0 root c own in
      let not_root : c.child ≢ 0 = λ e. root_no_child f live lawful.tree 0 root
      (subst (λ x. 0 < times x (map (λ (p : Pair). p.child) (pairs_of (f 0)))) e
      (own_child f 0 c own)) in
      let outside = not_among (0 ∷ []) c.child (omega (arith, once_other c.child 0 not_root)) in
      let old : fresh c.child ≡ false = elim (cases_Bool (fresh c.child)) [
        | inl new' ↦ absurd (both_ways (live c.child) (is_free c.child new') alive)
        | inr old ↦ old
      ] in
      (outside, or_from (group c.child) (fresh c.child) outside old)

  root_level : (g 0).level ≡ suc level
  root_level = ap (λ s. s.level) split.root ∙ add-one level

  root_branches : branches level (g 0) ≡ [] ++ ((one ∷ two ∷ []) ++ [])
  root_branches = ap (branches level) split.root

  new_exits : exits_of g level a ++ (exits_of g level r ++ []) ≡ exits_of f level 0
  new_exits = by_level level
    where
      by_level : (k : ℕ) → exits_of g k a ++ (exits_of g k r ++ []) ≡ exits_of f k 0
      by_level zero = refl
      by_level (suc k) = ap (λ l. branches k (g a) ++ l) (append-nil (branches k (g r)))
          ∙ pieces.children k

  old_ways : (within group f level 0 ≡ 0 ∷ []) × (leaving group f level 0 ≡ exits_of f level 0)
  old_ways = alone group f level 0 (λ c there. (child_apart c (exit_own f level 0 c refl there)).0)

  exit_apart : (d : Branch) → In d (exits_of g level a ++ (exits_of g level r ++ [])) →
      either group fresh d.child ≡ false
  exit_apart d there =
      (child_apart d (exit_own f level 0 d refl (subst (λ ds. In d ds) new_exits there))).1

  from_left : (d : Branch) → In d (exits_of g level a) → either group fresh d.child ≡ false
  from_left d there = exit_apart d (in_left (exits_of g level a) (exits_of g level r ++ []) d there)

  from_right : (d : Branch) → In d (exits_of g level r) → either group fresh d.child ≡ false
  from_right d there =
      exit_apart d (in_right (exits_of g level a) (exits_of g level r ++ []) d
      (in_left (exits_of g level r) [] d there))

  touched_left : IsTrue (either group fresh a)
  touched_left = or_right (group a) (fresh a) (among (a ∷ r ∷ []) a (times_head a (r ∷ [])))

  touched_right : IsTrue (either group fresh r)
  touched_right = or_right (group r) (fresh r) (among (a ∷ r ∷ []) r (second a r []))

  new_ways : (within (either group fresh) g (suc level) 0 ≡ 0 ∷ a ∷ r ∷ [])
      × (leaving (either group fresh) g (suc level)
      0 ≡ [] ++ (flat_map (λ (c : Branch). exits_of g level c.child) (one ∷ two ∷ []) ++ []))
  new_ways = two_levels (either group fresh) g level 0 [] (one ∷ two ∷ []) [] root_branches
      (λ c none. absurd none) (λ c none. absurd none)
      (two_of (λ (c : Branch). IsTrue (either group fresh c.child)) one two touched_left
      touched_right)
      (two_of (λ (c : Branch). (d : Branch) → In d (exits_of g level c.child) →
      either group fresh d.child ≡ false) one two from_left from_right)

  reached_now : reached_nodes 0 group fresh g ≡ 0 ∷ a ∷ r ∷ []
  reached_now = ap (λ l. within (either group fresh) g l 0) root_level ∙ new_ways.0

  root_ordered : IsOrdered (g 0)
  root_ordered = subst IsOrdered (sym split.root) (let above = pieces.above in let below =
      pieces.below in
      let high : (g a).high ≡ fence = ap (λ s. s.high) split.first in
      (omega arith, (omega arith, (omega arith, refl))))

  split_change : IsLocalChange f live 0 group fresh g
  split_change = record {
    top_live = root;
    top_grouped = among (0 ∷ []) 0 (times_head 0 []);
    grouped = λ x inside. subst (λ l. 0 < times x l) (sym old_ways.0)
        (subst (λ y. 0 < times x (y ∷ [])) (only 0 x inside) (times_head x []));
    fresh_free = is_free;
    others_stay = λ x outside.
        let parts = or_parts (group x) (fresh x) outside in
        split.others x (not_one (0 ∷ []) x 0 parts.0 (times_head 0 []))
        (not_one (a ∷ r ∷ []) x a parts.1 (times_head a (r ∷ [])))
        (not_one (a ∷ r ∷ []) x r parts.1 (second a r []));
    low = ap (λ s. s.low) split.root;
    high = ap (λ s. s.high) split.root;
    level = λ other. absurd (other refl);
    height = λ _. (let top = split.height in let at = root_level in omega arith);
    ordered = subst (AllByRecursion (λ x. IsOrdered (g x))) (sym reached_now)
        (root_ordered, (pieces.first_ordered, (pieces.last_ordered, tt)));
    reached_once = λ x. subst (λ l. times x l ≤ 1) (sym reached_now) (once_three x);
    fitting =
        subst (AllByRecursion (λ x. AllByRecursion (λ c. IsTrue (either group fresh c.child) →
        FitsParent g c) (own_branches g x))) (sym reached_now) (
          all_from (λ c. IsTrue (either group fresh c.child) → FitsParent g c) (own_branches g 0)
              (λ c own touched. two_of (FitsParent g) one two
              (record {
                level = pieces.first_level;
                low = pieces.low;
                high =
                    ap (λ s. s.high) split.first;
              })
              (record {
                level = pieces.last_level;
                low = ap (λ s. s.low) split.last;
                high =
                    pieces.high;
              })
              c (subst (λ bs. In c bs) (own_at g 0 level root_level ∙ root_branches) own)),
          (
            all_from (λ c. IsTrue (either group fresh c.child) → FitsParent g c) (own_branches g a)
                (λ c own touched.
                absurd (both_ways (either group fresh c.child)
                (from_left c (own_exit g level a c pieces.first_ordered pieces.first_level own))
                touched)),
            (
              all_from (λ c. IsTrue (either group fresh c.child) → FitsParent g c)
                  (own_branches g r)
                  (λ c own touched.
                  absurd (both_ways (either group fresh c.child)
                  (from_right c (own_exit g level r c pieces.last_ordered pieces.last_level own))
                  touched)),
              tt,
            ),
          ),
        );
    exits = ap (λ l. leaving (either group fresh) g l 0) root_level ∙ new_ways.1
        ∙ append-nil (exits_of g level a ++ (exits_of g level r ++ [])) ∙ new_exits
        ∙ sym old_ways.1;
  }
    where
      once_three : (x : ℕ) → times x (0 ∷ a ∷ r ∷ []) ≤ 1
      once_three x = elim (cases_eq x 0) [
        | inl e ↦ omega (
          arith,
          once_most (eqb x 0),
          once_other x a (λ is. a_below (sym is ∙ e)),
          once_other x r (λ is. r_below (sym is ∙ e)),
        )
        | inr not_root ↦ elim (cases_eq x a) [
          | inl e ↦ omega (
            arith,
            once_other x 0 not_root,
            once_most (eqb x a),
            once_other x r (λ is. split.different (sym e ∙ is)),
          )
          | inr not_a ↦ omega (
            arith,
            once_other x 0 not_root,
            once_other x a not_a,
            once_most (eqb x r),
          )
        ]
      ]

  -- the entries are the old root's
  entries_now : (m : Member) → HasEntry g (is_among (reached_nodes 0 group fresh g)) m →
      HasEntry f group m
  entries_now m (x, (there, held)) =
      let among' : IsTrue (is_among (0 ∷ a ∷ r ∷ []) x) =
      subst (λ l. IsTrue (is_among l x)) reached_now there in
      let old : In m (entries_of (f 0)) =
      all_among (λ y. In m (entries_of (g y)) → In m (entries_of (f 0))) (0 ∷ a ∷ r ∷ []) x (
        (λ here. absurd (subst (λ s. In m (entries_of s)) split.root here)),
        (
          (λ here. subst (λ es. In m es) pieces.members
              (in_left (entries_of (g a)) (entries_of (g r)) m here)),
          (
            (λ here. subst (λ es. In m es) pieces.members
                (in_right (entries_of (g a)) (entries_of (g r)) m here)),
            tt,
          ),
        ),
      ) among' (contains_in (entries_of (g x)) m held) in
      (0, (among (0 ∷ []) 0 (times_head 0 []), in_contains (entries_of (f 0)) m old))

  entries_then : (m : Member) → HasEntry f group m →
      HasEntry g (is_among (reached_nodes 0 group fresh g)) m
  entries_then m (x, (inside, held)) =
      let here : In m (entries_of (f 0)) = subst (λ y. In m (entries_of (f y))) (only 0 x inside)
      (contains_in (entries_of (f x)) m held) in
      elim (in_append (entries_of (g a)) (entries_of (g r)) m
      (subst (λ es. In m es) (sym pieces.members) here)) [
        | inl first
            ↦ (
              a,
              (
                subst (λ l. is_among l a ≡ true) (sym reached_now)
                    (among (0 ∷ a ∷ r ∷ []) a (second 0 a (r ∷ []))),
                in_contains (entries_of (g a)) m first,
              ),
            )
        | inr last
            ↦ (
              r,
              (
                subst (λ l. is_among l r ≡ true) (sym reached_now)
                    (among (0 ∷ a ∷ r ∷ []) r (third 0 a r [])),
                in_contains (entries_of (g r)) m last,
              ),
            )
      ]

  pub root_split_changes : IsChangeOf f live 0 (0 ∷ []) (a ∷ r ∷ []) g None (0 ∷ a ∷ r ∷ [])
  root_split_changes =
      let halves = halves_filled a r (f 0) a_below r_below split.full in
      record {
        lawful = record {
          change = split_change;
          filled = subst (AllByRecursion (λ y. IsFilled y (g y))) (sym reached_now) (
            subst (IsFilled 0) (sym split.root) (omega arith, omega arith),
            (
              subst (IsFilled a) (sym split.first) halves.0,
              (subst (IsFilled r) (sym split.last) halves.1, tt),
            ),
          );
          entries = λ m. (entries_now m, entries_then m);
        };
        reaches = reached_now;
      }

  pub root_split_keeps : Keeps f live g (with_node r (with_node a live))
  root_split_keeps =
      let now = 0 ∷ a ∷ r ∷ [] in
      let r_free : with_node a live r ≡ false = with_other live a r (λ e. split.different (sym e))
      ∙ split.free_right in
      keeps_now f live (with_node r (with_node a live)) 0 (0 ∷ []) (a ∷ r ∷ []) g now lawful
      root_split_changes (
        with_fresh (with_node a live) r r_free 0 (with_fresh live a split.free_left 0 root)
            ∙ sym (among now 0 (times_head 0 (a ∷ r ∷ []))),
        tt,
      ) (
        with_fresh (with_node a live) r r_free a (with_itself live a)
            ∙ sym (among now a (second 0 a (r ∷ []))),
        (with_itself (with_node a live) r ∙ sym (among now r (third 0 a r [])), tt),
      )
      (λ x not_group not_fresh. with_other (with_node a live) r x
      (not_one (a ∷ r ∷ []) x r not_fresh (second a r []))
      ∙ with_other live a x (not_one (a ∷ r ∷ []) x a not_fresh (times_head a (r ∷ []))))

-- A lift and the split that follows it are such a step.
abbrev divided_root : ℕ → NodeData → NodeData → NodeData
divided_root r s c =
    record s {
      body =
          Pairs (at_slot (divide (body_end (first_part (middle c.body) c.body)) r) 0 (pairs_of s));
    }

lift_split : (f : Contents) (live : ℕ → Bool) (a : ℕ) (h : Contents) → IsLift f live a h →
    (p : Pair) (r : ℕ) (g : Contents) →
    IsSplit h (with_node a live) 0 0 p r g → IsRootSplit f live a r g
lift_split f live a h lift p r g split =
    let s = f 0 in
    let pair : Pair = record { child = a; separator = s.high } in
    let is : pair ≡ p =
    some_same pair p (subst (λ (t : NodeData). slice_get (pairs_of t) 0 ≡ Some p) lift.root
    split.at) in
    let child : p.child ≡ a = ap (λ (x : Pair). x.child) (sym is) in
    let moved : h p.child ≡ f 0 = ap h child ∙ lift.moved in
    let other : a ≢ r = λ e. both_ways (with_node a live r) split.free
    (subst (λ y. IsTrue (with_node a live y)) e (with_itself live a)) in
    record {
      height = lift.height;
      full = lift.full;
      free_left = lift.free;
      free_right = sym (with_other live a r (λ e. other (sym e))) ∙ split.free;
      different = other;
      root = split.above ∙ ap (λ c. divided_root r (h 0) c) moved
          ∙ ap (λ t. divided_root r t (f 0)) lift.root;
      first = sym (ap g child) ∙ split.left ∙ ap (λ (c : NodeData). first_half (middle c.body) c)
          moved;
      last = split.right ∙ ap (λ (c : NodeData). last_half (middle c.body) c) moved;
      others = λ n not_root not_a not_r. split.others n not_root (λ e. not_a (e ∙ child)) not_r
          ∙ lift.others n not_root not_a;
    }

pub lift_split_keeps : (f : Contents) (live : ℕ → Bool) → IsLawfulTree f live →
    (a : ℕ) (h : Contents) →
    IsLift f live a h → (p : Pair) (r : ℕ) (g : Contents) →
    IsSplit h (with_node a live) 0 0 p r g → Keeps f live g (with_node r (with_node a live))
lift_split_keeps f live lawful a h lift p r g split =
    root_split_keeps f live lawful a r g (lift_split f live a h lift p r g split)

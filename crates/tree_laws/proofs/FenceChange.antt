-- A moved fence as a local change of the parent and the two spines.
use Rattle.std.proofs.Common.{◌≡◌, ℕ, suc, ◌+◌, ◌<◌, ◌≤◌, List, [], ◌∷◌, ◌++◌, refl, ap, sym, ◌∙◌}
use Rattle.std.proofs.Common.{subst, arith, Bool, true, false, cond, ◌||◌, IsTrue, eqb, inl, inr}
use Rattle.std.specs.Prelude.{None}
use mathlib.Core.Path.{fun_ext}
use Rattle.std.specs.List.{flat_map, AllByRecursion, Contains}
use Rattle.std.proofs.lemmas.Bool.{cases_eq, or_parts, ltb-true, both_ways}
use Rattle.std.proofs.lemmas.List.{append-nil}
use Rattle.std.proofs.lemmas.List.Concat.{flat_map-append}
use Rattle.tree_shape.specs.declared.pair.Pair.{Pair}
use Rattle.tree_laws.specs.Numbers.{times, once, is_among}
use Rattle.tree_shape.specs.Changes.{ends_at_fence, begins_after}
use Rattle.tree_laws.specs.Trees.{Contents, Branch, branches_from, branches, nodes_under, within}
use Rattle.tree_laws.specs.Trees.{leaving}
use Rattle.tree_laws.specs.Lawful.{IsLawfulTree, IsOrdered, IsFilled, FitsParent}
use Rattle.tree_laws.specs.LocalChange.{IsLocalChange, IsChangeOf, either, reached_nodes}
use Rattle.tree_laws.specs.Steps.{IsFenceMove, last_spine, first_spine, fence_nodes}
use Rattle.tree_laws.proofs.Times.{In, all_from, all_times, in_times, once_same, once_other}
use Rattle.tree_laws.proofs.Times.{times-append, times_head, times_flat_map_from}
use Rattle.tree_laws.proofs.Reach.{onward, outward, under_top}
use Rattle.tree_laws.proofs.Living.{own_branches, child_fits, live_under}
use Rattle.tree_laws.proofs.Family.{quiet_onward, quiet_outward}
use Rattle.tree_laws.proofs.Halves.{among, not_among}
use Rattle.tree_laws.proofs.Spines.{last_top, first_top}
use Rattle.tree_laws.proofs.SpineWays.{WaysAlong, left_ways, right_ways}
use Rattle.tree_laws.proofs.Fences

-- a flat map over parts of a list with two in the middle
two_parts : {A : Type 0} (h : Branch → List A) (front back : List Branch) (x y : Branch)
    (a b c d : List A) →
    flat_map h front ≡ a → h x ≡ b → h y ≡ c → flat_map h back ≡ d →
    flat_map h (front ++ (x ∷ y ∷ back)) ≡ a ++ (b ++ (c ++ d))
two_parts h front back x y a b c d in_front at_x at_y in_back =
    flat_map-append h front (x ∷ y ∷ back)
    ∙ ap (λ l. l ++ (h x ++ (h y ++ flat_map h back))) in_front
    ∙ ap (λ l. a ++ (l ++ (h y ++ flat_map h back))) at_x
    ∙ ap (λ l. a ++ (b ++ (l ++ flat_map h back))) at_y
    ∙ ap (λ l. a ++ (b ++ (c ++ l))) in_back

or_nothing : (set : ℕ → Bool) → either set (is_among []) ≡ set
or_nothing set = fun_ext (λ x. with_false (set x))
  where
    with_false : (v : Bool) → v || false ≡ v
    with_false true = refl
    with_false false = refl

module _ (f : Contents) (live : ℕ → Bool) (lawful : IsLawfulTree f live) (n slot : ℕ) (p q : Pair)
    (fence : ℕ) (g : Contents) (move : IsFenceMove f live n slot p q fence g) where
  abbrev level : ℕ
  level = Fences.level f live lawful n slot p q fence g move

  abbrev nodes_of : List ℕ
  nodes_of = fence_nodes f n p q

  abbrev set : ℕ → Bool
  set = is_among nodes_of

  abbrev left : List ℕ
  left = last_spine f (f p.child).level p.child

  abbrev right : List ℕ
  right = first_spine f (f q.child).level q.child

  abbrev front : List Branch
  front = branches_from level (f n).low (Fences.at f live lawful n slot p q fence g move).front

  abbrev back : List Branch
  back = branches_from level (q.separator + 1)
      (Fences.at f live lawful n slot p q fence g move).back

  abbrev under : Branch → List ℕ
  under b = nodes_under f level b.child

  left_level : (f p.child).level ≡ level
  left_level = Fences.left_level f live lawful n slot p q fence g move

  right_level : (f q.child).level ≡ level
  right_level = Fences.right_level f live lawful n slot p q fence g move

  parts : (x : ℕ) → once (eqb x n) + (times x (flat_map under front)
      + (times x (nodes_under f level p.child) + (times x (nodes_under f level q.child) + times x
      (flat_map under back)))) ≤ 1
  parts x = Fences.parts f live lawful n slot p q fence g move x

  left_in : (x : ℕ) → times x left ≤ times x (nodes_under f level p.child)
  left_in x = Fences.left_in f live lawful n slot p q fence g move x

  right_in : (x : ℕ) → times x right ≤ times x (nodes_under f level q.child)
  right_in x = Fences.right_in f live lawful n slot p q fence g move x

  -- how often a number is one of the changed nodes
  count : (x : ℕ) → times x nodes_of ≡ once (eqb x n) + (times x left + times x right)
  count x = omega (arith, times-append x left right)

  none_changed : (x : ℕ) → once (eqb x n) ≡ 0 → times x left ≡ 0 → times x right ≡ 0 → set x ≡ false
  none_changed x not_n not_left not_right = not_among nodes_of x (omega (arith, count x))

  left_along : WaysAlong set f g level p.child left
  left_along = subst (λ l. WaysAlong set f g level p.child (last_spine f l p.child))
      (sym left_level)
      (left_ways set f g fence level p.child (f p.child).low (f p.child).high
      (Fences.left_before f live lawful n slot p q fence g move)
      (λ x there.
      let there' : 0 < times x left = subst (λ l. 0 < times x (last_spine f l p.child))
      (sym left_level) there in (
        among nodes_of x (omega (arith, count x)),
        all_times (λ y. g y ≡ ends_at_fence fence (f y)) left x
            move.left there',
      ))
      (λ x there none. none_changed x (omega (arith, parts x))
      (subst (λ l. times x (last_spine f l p.child) ≡ 0) (sym left_level) none)
      (omega (arith, parts x, right_in x)))
      (λ x. omega (arith, parts x)))

  right_along : WaysAlong set f g level q.child right
  right_along = subst (λ l. WaysAlong set f g level q.child (first_spine f l q.child))
      (sym right_level)
      (right_ways set f g fence level q.child (f q.child).low (f q.child).high
      (Fences.right_before f live lawful n slot p q fence g move)
      (λ x there.
      let there' : 0 < times x right = subst (λ l. 0 < times x (first_spine f l q.child))
      (sym right_level) there in (
        among nodes_of x (omega (arith, count x)),
        all_times (λ y. g y ≡ begins_after fence (f y)) right x
            move.right there',
      ))
      (λ x there none. none_changed x (omega (arith, parts x))
      (omega (arith, parts x, left_in x))
      (subst (λ l. times x (first_spine f l q.child) ≡ 0) (sym right_level) none))
      (λ x. omega (arith, parts x)))

  -- the other children of the parent aren't changed
  quiet_front : (b : Branch) → In b front → set b.child ≡ false
  quiet_front b there =
      let brought = times_flat_map_from under front b b.child there in
      let first = under_top f level b.child in
      none_changed b.child (omega (arith, parts b.child))
      (omega (arith, parts b.child, left_in b.child))
      (omega (arith, parts b.child, right_in b.child))

  quiet_back : (b : Branch) → In b back → set b.child ≡ false
  quiet_back b there =
      let brought = times_flat_map_from under back b b.child there in
      let first = under_top f level b.child in
      none_changed b.child (omega (arith, parts b.child))
      (omega (arith, parts b.child, left_in b.child))
      (omega (arith, parts b.child, right_in b.child))

  left_inside : IsTrue (set p.child)
  left_inside =
      among nodes_of p.child (omega (arith, count p.child, last_top f (f p.child).level p.child))

  right_inside : IsTrue (set q.child)
  right_inside =
      among nodes_of q.child (omega (arith, count q.child, first_top f (f q.child).level q.child))

  -- the ways from the parent, in contents of which the parent has such branches
  ways_of : (h : Contents) (x y : Branch) → x.child ≡ p.child → y.child ≡ q.child →
      branches level (h n) ≡ front ++ (x ∷ y ∷ back) →
      within set h level p.child ≡ left → within set h level q.child ≡ right →
      (within set h (suc level) n ≡ nodes_of)
      × (leaving set h (suc level)
      n ≡ front ++ (leaving set h level p.child ++ (leaving set h level q.child ++ back)))
  ways_of h x y is_p is_q has left_is right_is =
      let x_in : IsTrue (set x.child) = subst (λ c. IsTrue (set c)) (sym is_p) left_inside in
      let y_in : IsTrue (set y.child) = subst (λ c. IsTrue (set c)) (sym is_q) right_inside in (
        ap (λ l. n ∷ l) (
            ap (flat_map (onward set h level)) has
            ∙ two_parts (onward set h level) front back x y [] left right []
            (quiet_onward set h level front quiet_front)
            (ap (λ v. cond v (within set h level x.child) []) x_in
            ∙ ap (within set h level) is_p ∙ left_is)
            (ap (λ v. cond v (within set h level y.child) []) y_in
            ∙ ap (within set h level) is_q ∙ right_is)
            (quiet_onward set h level back quiet_back)
            ∙ ap (λ l. left ++ l) (append-nil right)),
        ap (flat_map (outward set h level)) has
            ∙ two_parts (outward set h level) front back x y front (leaving set h level p.child)
            (leaving set h level q.child) back
            (quiet_outward set h level front quiet_front)
            (ap (λ v. cond v (leaving set h level x.child) (x ∷ [])) x_in
            ∙ ap (leaving set h level) is_p)
            (ap (λ v. cond v (leaving set h level y.child) (y ∷ [])) y_in
            ∙ ap (leaving set h level) is_q)
            (quiet_outward set h level back quiet_back),
      )

  ways_before : (within set f (suc level) n ≡ nodes_of)
      × (leaving set f (suc level)
      n ≡ front ++ (leaving set f level p.child ++ (leaving set f level q.child ++ back)))
  ways_before = ways_of f (Fences.one f live lawful n slot p q fence g move)
      (Fences.two f live lawful n slot p q fence g move) refl refl
      (Fences.at f live lawful n slot p q fence g move).left.before left_along.before
      right_along.before

  ways_after : (within set g (suc level) n ≡ nodes_of)
      × (leaving set g (suc level)
      n ≡ front ++ (leaving set g level p.child ++ (leaving set g level q.child ++ back)))
  ways_after = ways_of g (Fences.one' f live lawful n slot p q fence g move)
      (Fences.two' f live lawful n slot p q fence g move) refl refl
      (Fences.branches_now f live lawful n slot p q fence g move) left_along.after right_along.after

  at_before : (f n).level ≡ suc level
  at_before = (Fences.at f live lawful n slot p q fence g move).left.at

  at_after : (g n).level ≡ suc level
  at_after = ap (λ s. s.level) move.above ∙ at_before

  reached_now : reached_nodes n set (is_among []) g ≡ nodes_of
  reached_now = ap (λ t. within t g (g n).level n) (or_nothing set)
      ∙ ap (λ l. within set g l n) at_after ∙ ways_after.0

  exits_now : leaving (either set (is_among [])) g (g n).level n ≡ leaving set f (f n).level n
  exits_now = ap (λ t. leaving t g (g n).level n) (or_nothing set)
      ∙ ap (λ l. leaving set g l n) at_after ∙ ways_after.1
      ∙ ap (λ l. front ++ (l ++ (leaving set g level q.child ++ back))) left_along.exits
      ∙ ap (λ l. front ++ (leaving set f level p.child ++ (l ++ back))) right_along.exits
      ∙ sym ways_before.1 ∙ ap (λ l. leaving set f l n) (sym at_before)

  -- the changed nodes are live, and the tree is lawful after
  changed_live : (x : ℕ) → 0 < times x nodes_of → IsTrue (live x)
  changed_live x there = elim (cases_eq x n) [
    | inl e ↦ subst (λ y. IsTrue (live y)) (sym e) move.live_parent
    | inr other ↦
        let at = Fences.at f live lawful n slot p q fence g move in
        elim (cases_eq (times x left) 0) [
          | inr some ↦ live_under f live lawful.tree level p.child at.left.alive left_level x
              (omega (arith, left_in x))
          | inl none ↦ live_under f live lawful.tree level q.child at.alive right_level x
              (omega (arith, count x, right_in x, once_other x n other))
        ]
  ]

  after_lawful : IsLawfulTree g live
  after_lawful = (Fences.move_keeps f live lawful n slot p q fence g move).lawful

  all_changed : (P : ℕ → Type 0) → ((x : ℕ) → IsTrue (live x) → P x) →
      AllByRecursion P (reached_nodes n set (is_among []) g)
  all_changed P each = subst (AllByRecursion P) (sym reached_now)
      (all_from P nodes_of (λ x there. each x (changed_live x (in_times nodes_of x there))))

  move_change : IsLocalChange f live n set (is_among []) g
  move_change = record {
    top_live = move.live_parent;
    top_grouped = among nodes_of n (times_head n (left ++ right));
    grouped =
        λ x inside. subst (λ l. 0 < times x l)
        (sym (ap (λ l. within set f l n) at_before ∙ ways_before.0))
        (ltb-true 0 (times x nodes_of) inside);
    fresh_free = λ x none. absurd (cc (none));
    others_stay = λ x outside.
        let none = not_there x (or_parts (set x) false outside).0 in
        move.others x
        (λ e. let one : once (eqb x n) ≡ 1 = ap (λ y. once (eqb x y)) (sym e) ∙ once_same x in
        omega (arith, count x))
        (omega (arith, count x)) (omega (arith, count x));
    low = ap (λ s. s.low) move.above;
    high = ap (λ s. s.high) move.above;
    level = λ other. ap (λ s. s.level) move.above;
    height = λ root.
        let height = lawful.tree.height in
        let same : (g n).level ≡ (f 0).level = ap (λ s. s.level) move.above
        ∙ ap (λ y. (f y).level) root in
        omega arith;
    ordered = all_changed (λ x. IsOrdered (g x)) (λ x alive. after_lawful.tree.ordered x alive);
    reached_once = λ x. subst (λ l. times x l ≤ 1) (sym reached_now)
        (omega (arith, count x, parts x, left_in x, right_in x));
    fitting =
        all_changed (λ x. AllByRecursion (λ b. IsTrue (either set (is_among []) b.child) →
        FitsParent g b)
        (own_branches g x))
        (λ x alive. all_from (λ b. IsTrue (either set (is_among []) b.child) → FitsParent g b)
        (own_branches g x)
        (λ b own touched. child_fits g live after_lawful.tree x alive b own));
    exits = exits_now;
  }
    where
      not_there : (x : ℕ) → set x ≡ false → times x nodes_of ≡ 0
      not_there x outside = elim (cases_eq (times x nodes_of) 0) [
        | inl none ↦ none
        | inr some ↦ absurd (both_ways (set x) outside (among nodes_of x (omega arith)))
      ]

  pub move_changes : IsChangeOf f live n nodes_of [] g None nodes_of
  move_changes = record {
    lawful = record {
      change = move_change;
      filled = all_changed (λ x. IsFilled x (g x)) (λ x alive. after_lawful.filled x alive);
      entries = λ m. (
        λ h. (
          h.0,
          (
            subst (λ l. IsTrue (is_among l h.0)) reached_now h.1.0,
            subst (λ es. Contains es m)
                ((Fences.alike f live lawful n slot p q fence g move h.0).members) h.1.1,
          ),
        ),
        λ h. (
          h.0,
          (
            subst (λ l. IsTrue (is_among l h.0)) (sym reached_now) h.1.0,
            subst (λ es. Contains es m)
                (sym (Fences.alike f live lawful n slot p q fence g move h.0).members) h.1.1,
          ),
        ),
      );
    };
    reaches = reached_now;
  }

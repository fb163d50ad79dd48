-- The laws of lifting the root and of sinking it.
use Rattle.std.proofs.Common.{◌≡◌, ◌≢◌, ℕ, zero, suc, ◌+◌, ◌-◌, ◌<◌, ◌≤◌, [], ◌∷◌, ◌++◌, length}
use Rattle.std.proofs.Common.{map, refl, ap, sym, ◌∙◌, subst, arith, Bool, true, false, IsTrue, eqb}
use Rattle.std.proofs.Common.{inl, inr}
use Rattle.std.specs.Prelude.{None}
use Rattle.std.specs.List.{flat_map, AllByRecursion, Contains, slice_get}
use Rattle.std.proofs.lemmas.Bool.{cases_eq, cases_Bool, cond-true, cond-false, eq-eqb, eqb-true}
use Rattle.std.proofs.lemmas.Bool.{eqb-false, ne_eqb, or_left, or_right, or_cases, or_parts}
use Rattle.std.proofs.lemmas.Bool.{or_from, both_ways}
use Rattle.std.proofs.lemmas.List.{append-nil, length-append}
use Rattle.std.proofs.Math.Numerals.{add-one}
use Rattle.reg_model.specs.declared.span.Member.{Member}
use Rattle.tree_shape.specs.declared.pair.Pair.{Pair}
use Rattle.tree_laws.specs.Numbers.{times, is_among}
use Rattle.tree_shape.specs.NodeData.{Body, Pairs, Entries, Link, entries_of, pairs_of, Cut}
use Rattle.tree_shape.specs.Changes.{joined, both, FitAs}
use Rattle.tree_laws.specs.Trees.{Contents, Branch, branch, branches, within, leaving, HasEntry}
use Rattle.tree_laws.specs.Lawful.{IsLawfulTree, IsOrdered, IsFilled, IsFilledAs, FitsParent}
use Rattle.tree_laws.specs.LocalChange.{IsLocalChange, IsChangeOf, either, live_after}
use Rattle.tree_laws.specs.LocalChange.{reached_nodes}
use Rattle.tree_laws.specs.Steps.{Keeps, IsLift, Lifts, IsSink, IsFull, with_node, without_node}
use Rattle.tree_laws.proofs.Times.{In, listed_family, all_from, in_append, in_flat_map, in_left}
use Rattle.tree_laws.proofs.Times.{in_right, times_head, once_other, once_most}
use Rattle.tree_laws.proofs.Living.{own_branches, own_at, no_branches, root_live, root_no_child}
use Rattle.tree_laws.proofs.Living.{child_live, own_child}
use Rattle.tree_laws.proofs.Leads.{contains_in, in_contains, leaf_says}
use Rattle.tree_laws.proofs.Local.{tree_after, entries_after}
use Rattle.tree_laws.proofs.Runs.{JoinsTo}
use Rattle.tree_laws.proofs.Family.{family, alone, two_levels, exits_of, Grouped, grandchild}
use Rattle.tree_laws.proofs.Family.{untouched, old_inside, old_ways}
use Rattle.tree_laws.proofs.Slotted.{ordered_pairs, Slotted, slotted}
use Rattle.tree_laws.proofs.Listed.{tree_same, entry_same, named, keeps_now, without_other}
use Rattle.tree_laws.proofs.Listed.{without_itself}
use Rattle.tree_laws.proofs.Joins.{Neighbours, neighbours, neighbours_join, none_of, one_of_three}
use Rattle.tree_laws.proofs.Halves.{among, not_among, not_one, only, second, third, fewest_below}
use Rattle.tree_laws.proofs.Halves.{fewest_pairs_some, fit_kind}

-- a full node is filled wherever it stands
full_filled : (n : ℕ) (b : Body) → n ≢ 0 → IsFull b → IsFilledAs n b
full_filled n (Pairs pairs) below full = (omega (arith, (fewest_below n below).1), omega arith)
full_filled n (Entries entries) below full = (omega (arith, (fewest_below n below).0), omega arith)
full_filled n (Link next) below full = absurd full

-- a branch of a node at its own level is one of its own
pub exit_own : (f : Contents) (level n : ℕ) (c : Branch) → (f n).level ≡ level →
    In c (exits_of f level n) → In c (own_branches f n)
exit_own f zero n c at there = absurd there
exit_own f (suc level) n c at there = subst (λ bs. In c bs) (sym (own_at f n level at)) there

pub own_exit : (f : Contents) (level n : ℕ) (c : Branch) → IsOrdered (f n) → (f n).level ≡ level →
    In c (own_branches f n) → In c (exits_of f level n)
own_exit f zero n c ordered at own = no_branches (f n) ((f n).level - 1) c ordered at own
own_exit f (suc level) n c ordered at own = subst (λ bs. In c bs) (own_at f n level at) own

abbrev root_only : ℕ → Bool
root_only x = eqb x 0

module _ (f : Contents) (live : ℕ → Bool) (lawful : IsLawfulTree f live) (a : ℕ) (g : Contents)
    (lift : IsLift f live a g) where
  a_other : (x : ℕ) → IsTrue (live x) → a ≢ x
  a_other x alive e = both_ways (live a) lift.free (subst (λ y. IsTrue (live y)) (sym e) alive)

  a_below : a ≢ 0
  a_below = a_other 0 (root_live f live lawful.tree)

  abbrev b : Branch
  b = branch a ((f 0).level) ((f 0).low) ((f 0).high)

  -- the old root's children aren't touched
  child_apart : (c : Branch) → In c (own_branches f 0) → (root_only c.child ≡ false) × (either root_only (λ x. eqb x a) c.child ≡ false)
  child_apart c own =
      let alive = child_live f live lawful.tree 0 (root_live f live lawful.tree) c own in
      let not_root : c.child ≢ 0 = λ e. root_no_child f live lawful.tree 0 (root_live f live lawful.tree) (subst (λ x. 0 < times x (map (λ (p : Pair). p.child) (pairs_of (f 0)))) e (own_child f 0 c own)) in
      let outside = ne_eqb c.child 0 not_root in
      (outside, or_from (root_only c.child) (eqb c.child a) outside (ne_eqb c.child a (λ e. a_other c.child alive (sym e))))

  root_level : (g 0).level ≡ suc (f 0).level
  root_level = ap (λ s. s.level) lift.root ∙ add-one (f 0).level

  root_branches : branches (f 0).level (g 0) ≡ [] ++ ((b ∷ []) ++ [])
  root_branches = ap (branches (f 0).level) lift.root

  moved_exits : exits_of g (f 0).level a ≡ exits_of f (f 0).level 0
  moved_exits = same (f 0).level
    where
      same : (level : ℕ) → exits_of g level a ≡ exits_of f level 0
      same zero = refl
      same (suc level) = ap (branches level) lift.moved

  lift_old : (within root_only f (f 0).level 0 ≡ 0 ∷ []) × (leaving root_only f (f 0).level 0 ≡ exits_of f (f 0).level 0)
  lift_old = alone root_only f (f 0).level 0 (λ c there. (child_apart c (exit_own f (f 0).level 0 c refl there)).0)

  lift_new : (within (either root_only (λ x. eqb x a)) g (suc (f 0).level) 0 ≡ 0 ∷ a ∷ [])
      × (leaving (either root_only (λ x. eqb x a)) g (suc (f 0).level) 0 ≡ [] ++ (flat_map (λ (c : Branch). exits_of g (f 0).level c.child) (b ∷ []) ++ []))
  lift_new = two_levels (either root_only (λ x. eqb x a)) g (f 0).level 0 [] (b ∷ []) [] root_branches
      (λ c none. absurd none) (λ c none. absurd none)
      (λ c there. elim there [ inl e ↦ subst (λ (x : Branch). IsTrue (either root_only (λ y. eqb y a) x.child)) e (or_right (root_only a) (eqb a a) (eq-eqb a a refl)) | inr none ↦ absurd none ])
      (λ c there d below'. elim there [
        | inl e ↦
            let here : In d (exits_of g (f 0).level a) = subst (λ (x : Branch). In d (exits_of g (f 0).level x.child)) (sym e) below' in
            (child_apart d (exit_own f (f 0).level 0 d refl (subst (λ ds. In d ds) moved_exits here))).1
        | inr none ↦ absurd none
      ])

  reached_lift : within (either root_only (λ x. eqb x a)) g (g 0).level 0 ≡ 0 ∷ a ∷ []
  reached_lift = ap (λ l. within (either root_only (λ x. eqb x a)) g l 0) root_level ∙ lift_new.0

  root_ordered : IsOrdered (g 0)
  root_ordered = subst IsOrdered (sym lift.root) (let low = lawful.tree.root_low in (omega arith, (omega arith, refl)))

  moved_ordered : IsOrdered (g a)
  moved_ordered = subst IsOrdered (sym lift.moved) (lawful.tree.ordered 0 (root_live f live lawful.tree))

  lift_change : IsLocalChange f live 0 root_only (λ x. eqb x a) g
  lift_change = record {
    top_live = root_live f live lawful.tree;
    top_grouped = refl;
    grouped = λ x inside. subst (λ l. 0 < times x l) (sym lift_old.0) (subst (λ y. 0 < times x (y ∷ [])) (eqb-true x 0 inside) (times_head x []));
    fresh_free = λ x is_a. subst (λ y. live y ≡ false) (sym (eqb-true x a is_a)) lift.free;
    others_stay = λ x outside. (let parts = or_parts (root_only x) (eqb x a) outside in lift.others x (eqb-false x 0 parts.0) (eqb-false x a parts.1));
    low = ap (λ s. s.low) lift.root;
    high = ap (λ s. s.high) lift.root;
    level = λ other. absurd (other refl);
    height = λ _. (let top = lift.height in let at = root_level in omega arith);
    ordered = subst (AllByRecursion (λ x. IsOrdered (g x))) (sym reached_lift) (root_ordered, (moved_ordered, tt));
    reached_once = λ x. subst (λ l. times x l ≤ 1) (sym reached_lift) (once_pair x);
    fitting =
        subst (AllByRecursion
        (λ x. AllByRecursion (λ c. IsTrue (either root_only (λ y. eqb y a) c.child) →
        FitsParent g c) (own_branches g x))) (sym reached_lift) (
          all_from (λ c. IsTrue (either root_only (λ y. eqb y a) c.child) → FitsParent g c)
              (own_branches g 0)
              (λ c own touched. elim (subst (λ bs. In c bs) (own_at g 0 (f 0).level root_level ∙ root_branches) own) [
                | inl e ↦ subst (FitsParent g) e
                    (record {
                      level = ap (λ s. s.level) lift.moved;
                      low = ap (λ s. s.low) lift.moved;
                      high = ap (λ s. s.high) lift.moved;
                    })
                | inr none ↦ absurd none
              ]),
          (
            all_from (λ c. IsTrue (either root_only (λ y. eqb y a) c.child) → FitsParent g c)
                (own_branches g a)
                (λ c own touched.
                let own' : In c (own_branches f 0) = subst (λ s. In c (branches (s.level - 1) s)) lift.moved own in
                absurd (both_ways (either root_only (λ y. eqb y a) c.child) (child_apart c own').1 touched)),
            tt,
          ),
        );
    exits = ap (λ l. leaving (either root_only (λ x. eqb x a)) g l 0) root_level ∙ lift_new.1
        ∙ append-nil (exits_of g (f 0).level a ++ []) ∙ append-nil (exits_of g (f 0).level a) ∙ moved_exits ∙ sym lift_old.1;
  }
    where
      once_pair : (x : ℕ) → times x (0 ∷ a ∷ []) ≤ 1
      once_pair x = elim (cases_eq x 0) [
        | inl e ↦ omega (arith, once_most (eqb x 0), once_other x a (λ is_a. a_below (sym is_a ∙ e)))
        | inr other ↦ omega (arith, once_other x 0 other, once_most (eqb x a))
      ]

  lift_live : (x : ℕ) → live_after live 0 root_only (λ y. eqb y a) g x ≡ with_node a live x
  lift_live x = elim (cases_Bool (either root_only (λ y. eqb y a) x)) [
    | inl touched ↦
        cond-true (either root_only (λ y. eqb y a) x) (is_among (within (either root_only (λ y. eqb y a)) g (g 0).level 0) x) (live x) touched
        ∙ ap (λ l. is_among l x) reached_lift
        ∙ elim (or_cases (root_only x) (eqb x a) touched) [
          | inl is_root ↦ subst (λ y. is_among (0 ∷ a ∷ []) y ≡ with_node a live y) (sym (eqb-true x 0 is_root))
              (among (0 ∷ a ∷ []) 0 (times_head 0 (a ∷ [])) ∙ sym (cond-false (eqb 0 a) true (live 0) (ne_eqb 0 a (λ e. a_below (sym e))) ∙ root_live f live lawful.tree))
          | inr is_a ↦ subst (λ y. is_among (0 ∷ a ∷ []) y ≡ with_node a live y) (sym (eqb-true x a is_a))
              (among (0 ∷ a ∷ []) a (second 0 a []) ∙ sym (cond-true (eqb a a) true (live a) (eq-eqb a a refl)))
        ]
    | inr untouched' ↦
        cond-false (either root_only (λ y. eqb y a) x) (is_among (within (either root_only (λ y. eqb y a)) g (g 0).level 0) x) (live x) untouched'
        ∙ sym (cond-false (eqb x a) true (live x) (or_parts (root_only x) (eqb x a) untouched').1)
  ]

  lift_now : (m : Member) → HasEntry g (with_node a live) m → HasEntry f live m
  lift_now m has = elim ((entries_after f live 0 root_only (λ y. eqb y a) g lawful.tree lift_change m).0
      (entry_same g (with_node a live) (live_after live 0 root_only (λ y. eqb y a) g) (λ x. sym (lift_live x)) m has)) [
        | inl kept ↦ kept.0
        | inr (x, (there, held)) ↦ elim (cases_eq x a) [
          | inl e ↦ (0, (root_live f live lawful.tree, subst (λ s. Contains (entries_of s) m) (ap g e ∙ lift.moved) held))
          | inr other ↦
              let is_root = only 0 x (among_first x other (ap (λ l. is_among l x) (sym reached_lift) ∙ there)) in
              absurd (subst (λ s. In m (entries_of s)) (ap g is_root ∙ lift.root) (contains_in (entries_of (g x)) m held))
        ]
      ]
    where
      among_first : (x : ℕ) → x ≢ a → is_among (0 ∷ a ∷ []) x ≡ true → is_among (0 ∷ []) x ≡ true
      among_first x other there = elim (cases_eq x 0) [
        | inl e ↦ subst (λ y. is_among (0 ∷ []) y ≡ true) (sym e) refl
        | inr not_root ↦ absurd (both_ways (is_among (0 ∷ a ∷ []) x) (not_among (0 ∷ a ∷ []) x (omega (arith, once_other x 0 not_root, once_other x a other))) there)
      ]

  lift_then : (m : Member) → HasEntry f live m → HasEntry g (with_node a live) m
  lift_then m (x, (alive, held)) = elim (cases_eq x 0) [
    | inl e ↦ (a, (cond-true (eqb a a) true (live a) (eq-eqb a a refl), subst (λ s. Contains (entries_of s) m) (ap f e ∙ sym lift.moved) held))
    | inr other ↦
        let not_a : x ≢ a = λ e. a_other x alive (sym e) in
        (x, (cond-false (eqb x a) true (live x) (ne_eqb x a not_a) ∙ alive, subst (λ s. Contains (entries_of s) m) (sym (lift.others x other not_a)) held))
  ]

  pub lifts : Lifts f live g (with_node a live)
  lifts = record {
    tree = tree_same g (live_after live 0 root_only (λ y. eqb y a) g) (with_node a live) lift_live (tree_after f live 0 root_only (λ y. eqb y a) g lawful.tree lift_change);
    one_pair = ap (λ s. length (pairs_of s)) lift.root;
    filled = λ x alive other. elim (cases_eq x a) [
      | inl e ↦ subst (λ y. IsFilled y (g y)) (sym e) (subst (IsFilled a) (sym lift.moved) (full_filled a (f 0).body a_below lift.full))
      | inr not_a ↦ subst (IsFilled x) (sym (lift.others x other not_a)) (lawful.filled x (sym (cond-false (eqb x a) true (live x) (ne_eqb x a not_a)) ∙ alive))
    ];
    entries = λ m. (lift_now m, lift_then m);
  }

root_joined : (n : ℕ) (b c : Body) → FitAs b c → IsFilledAs n b → IsFilledAs 0 (both b c)
root_joined n (Pairs left) (Pairs right) fit filled = let len = length-append left right in (omega (arith, filled.0, fewest_pairs_some n), omega arith)
root_joined n (Pairs left) (Entries right) fit filled = absurd fit
root_joined n (Pairs left) (Link next) fit filled = absurd fit
root_joined n (Entries left) (Pairs right) fit filled = absurd fit
root_joined n (Entries left) (Entries right) fit filled = let len = length-append left right in (omega arith, omega arith)
root_joined n (Entries left) (Link next) fit filled = absurd fit
root_joined n (Link next) c fit filled = absurd fit

-- a list of two branches, cut at the ends
cut_two : (low high : ℕ) (p q : Pair) → Cut low high (p ∷ q ∷ []) → (low ≤ p.separator) × (p.separator < q.separator) × (q.separator ≡ high)
cut_two low high p q cut = (cut.0, omega (arith, cut.1.0), omega (arith, cut.1.1))

module _ (f : Contents) (live : ℕ → Bool) (lawful : IsLawfulTree f live) (p q : Pair) (g : Contents)
    (sink : IsSink f live p q g) where
  at : Neighbours f live 0 0 p q
  at = neighbours f live lawful.tree 0 0 p q (root_live f live lawful.tree) (ap (λ ps. slice_get ps 0) sink.pairs) (ap (λ ps. slice_get ps (0 + 1)) sink.pairs)

  left : Slotted f live 0 [] p (q ∷ [])
  left = slotted f live lawful.tree 0 (root_live f live lawful.tree) [] p (q ∷ []) sink.pairs

  abbrev one : Branch
  one = branch p.child left.level (f 0).low p.separator

  abbrev two : Branch
  two = branch q.child left.level (p.separator + 1) q.separator

  same_level : at.left.level ≡ left.level
  same_level = let a' = at.left.at in let b' = left.at in omega arith

  sink_side : Grouped f live 0 left.level [] (one ∷ two ∷ []) [] (λ _. false)
  sink_side = record {
    alive = root_live f live lawful.tree;
    at = left.at;
    before = left.before;
    free = λ x none. absurd (cc (none));
  }

  joined_now : JoinsTo (f p.child) (f q.child) (joined (f p.child) (f q.child))
  joined_now = neighbours_join f live lawful.tree 0 0 p q at (fit_kind (f p.child).body (f q.child).body sink.fit)

  -- the new root is the joined node, which has the root's fences
  new_root : g 0 ≡ joined (f p.child) (f q.child)
  new_root =
      let low = left.fits.low in
      let ordered = lawful.tree.ordered 0 (root_live f live lawful.tree) in
      let ends = cut_two (f 0).low (f 0).high p q (subst (λ ps. Cut (f 0).low (f 0).high ps) sink.pairs
      (ordered_pairs (f 0) (f 0).body ordered (omega (arith, ap length sink.pairs))).1) in
      let high : (f 0).high ≡ (f q.child).high = sym ends.2 ∙ sym at.fits.high in
      let j = joined (f p.child) (f q.child) in
      sink.root ∙ ap (λ (e : ℕ × ℕ). record j { low = e.0; high = e.1 }) (both_same (f 0).low (f p.child).low (f 0).high (f q.child).high (sym low) high)
    where
      both_same : (a b c d : ℕ) → a ≡ b → c ≡ d → ◌≡◌ {A = ℕ × ℕ} (a, c) (b, d)
      both_same a b c d e h = cc

  root_level_now : (g 0).level ≡ left.level
  root_level_now = ap (λ s. s.level) new_root ∙ left.fits.level

  root_ordered_now : IsOrdered (g 0)
  root_ordered_now = subst IsOrdered (sym new_root) joined_now.ordered

  -- the new root's children are the old children's, which aren't touched
  exits_now : exits_of g left.level 0 ≡ flat_map (λ (b : Branch). exits_of f left.level b.child) (one ∷ two ∷ [])
  exits_now = by_level left.level
    where
      by_level : (level : ℕ) → exits_of g level 0 ≡ exits_of f level p.child ++ (exits_of f level q.child ++ [])
      by_level zero = refl
      by_level (suc level) = ap (branches level) new_root ∙ sym (joined_now.children level) ∙ ap (λ l. branches level (f p.child) ++ l) (sym (append-nil (branches level (f q.child))))

  exit_apart : (c : Branch) → In c (exits_of g left.level 0) → either (family 0 (one ∷ two ∷ [])) (λ _. false) c.child ≡ false
  exit_apart c there =
      let found = in_flat_map (λ (b : Branch). exits_of f left.level b.child) (one ∷ two ∷ []) c (subst (λ cs. In c cs) exits_now there) in
      let grand = grandchild f live lawful.tree 0 left.level [] (one ∷ two ∷ []) [] (λ _. false) sink_side found.0 found.1.0 c found.1.1 in
      untouched f live lawful.tree 0 left.level [] (one ∷ two ∷ []) [] (λ _. false) sink_side c.child grand.0 grand.1

  sink_new : (within (either (family 0 (one ∷ two ∷ [])) (λ _. false)) g left.level 0 ≡ 0 ∷ []) × (leaving (either (family 0 (one ∷ two ∷ [])) (λ _. false)) g left.level 0 ≡ exits_of g left.level 0)
  sink_new = alone (either (family 0 (one ∷ two ∷ [])) (λ _. false)) g left.level 0 exit_apart

  reached_sink : within (either (family 0 (one ∷ two ∷ [])) (λ _. false)) g (g 0).level 0 ≡ 0 ∷ []
  reached_sink = ap (λ l. within (either (family 0 (one ∷ two ∷ [])) (λ _. false)) g l 0) root_level_now ∙ sink_new.0

  sink_old : (within (family 0 (one ∷ two ∷ [])) f (suc left.level) 0 ≡ 0 ∷ p.child ∷ q.child ∷ [])
      × (leaving (family 0 (one ∷ two ∷ [])) f (suc left.level) 0 ≡ [] ++ (flat_map (λ (b : Branch). exits_of f left.level b.child) (one ∷ two ∷ []) ++ []))
  sink_old = old_ways f live lawful.tree 0 left.level [] (one ∷ two ∷ []) [] (λ _. false) sink_side

  sink_change : IsLocalChange f live 0 (family 0 (one ∷ two ∷ [])) (λ _. false) g
  sink_change = record {
    top_live = root_live f live lawful.tree;
    top_grouped = refl;
    grouped = λ x inside. subst (λ l. 0 < times x (within (family 0 (one ∷ two ∷ [])) f l 0)) (sym left.at) (subst (λ l. 0 < times x l) (sym sink_old.0) (in_three x inside));
    fresh_free = λ x none. absurd (cc (none));
    others_stay = λ x outside. (let apart = none_of 0 p.child q.child x (one ∷ two ∷ []) refl outside in sink.others x apart.0 apart.1 apart.2);
    low = ap (λ s. s.low) sink.root;
    high = ap (λ s. s.high) sink.root;
    level = λ other. absurd (other refl);
    height = λ _. (let top = lawful.tree.height in let up = left.at in let now = root_level_now in omega arith);
    ordered = subst (AllByRecursion (λ x. IsOrdered (g x))) (sym reached_sink) (root_ordered_now, tt);
    reached_once = λ x. subst (λ l. times x l ≤ 1) (sym reached_sink) (omega (arith, once_most (eqb x 0)));
    fitting =
        subst (AllByRecursion
        (λ x. AllByRecursion (λ c. IsTrue (either (family 0 (one ∷ two ∷ [])) (λ _. false) c.child)
        → FitsParent g c) (own_branches g x))) (sym reached_sink) (
          all_from (λ c. IsTrue (either (family 0 (one ∷ two ∷ [])) (λ _. false) c.child) →
              FitsParent g c) (own_branches g 0)
              (λ c own touched. absurd (both_ways (either (family 0 (one ∷ two ∷ [])) (λ _. false) c.child) (exit_apart c (own_exit g left.level 0 c root_ordered_now root_level_now own)) touched)),
          tt,
        );
    exits = ap (λ l. leaving (either (family 0 (one ∷ two ∷ [])) (λ _. false)) g l 0) root_level_now ∙ sink_new.1 ∙ exits_now
        ∙ sym (append-nil (flat_map (λ (b : Branch). exits_of f left.level b.child) (one ∷ two ∷ [])))
        ∙ sym sink_old.1 ∙ ap (λ l. leaving (family 0 (one ∷ two ∷ [])) f l 0) (sym left.at);
  }
    where
      in_three : (x : ℕ) → IsTrue (family 0 (one ∷ two ∷ []) x) → 0 < times x (0 ∷ p.child ∷ q.child ∷ [])
      in_three x inside = one_of_three (λ y. 0 < times y (0 ∷ p.child ∷ q.child ∷ [])) 0 p.child q.child
          (times_head 0 (p.child ∷ q.child ∷ [])) (second 0 p.child (q.child ∷ [])) (third 0 p.child q.child [])
          x (or_left (family 0 (one ∷ two ∷ []) x) false inside)

  members_now : entries_of (f p.child) ++ entries_of (f q.child) ≡ entries_of (g 0)
  members_now = joined_now.members ∙ ap entries_of (sym new_root)

  root_has_none : (m : Member) → In m (entries_of (f 0)) → ⊥
  root_has_none m held =
      let says = leaf_says (f 0) (f 0).body (lawful.tree.ordered 0 (root_live f live lawful.tree)) m held in
      let up = left.at in omega (arith, says.0)

  sink_now : (m : Member) →
      HasEntry g (is_among (reached_nodes 0 (family 0 (one ∷ two ∷ [])) (λ _. false) g)) m →
      HasEntry f (family 0 (one ∷ two ∷ [])) m
  sink_now m (x, (there, held)) =
      let is_root = only 0 x (ap (λ l. is_among l x) (sym reached_sink) ∙ there) in
      let here : In m (entries_of (f p.child) ++ entries_of (f q.child)) =
      subst (λ es. In m es) (sym members_now)
      (subst (λ y. In m (entries_of (g y))) is_root (contains_in (entries_of (g x)) m held)) in
      let inside = old_inside f live lawful.tree 0 left.level [] (one ∷ two ∷ []) [] (λ _. false)
      sink_side in
      elim (in_append (entries_of (f p.child)) (entries_of (f q.child)) m here) [
        | inl first
            ↦ (p.child, (inside one (inl refl), in_contains (entries_of (f p.child)) m first))
        | inr last
            ↦ (q.child, (inside two (inr (inl refl)), in_contains (entries_of (f q.child)) m last))
      ]

  sink_then : (m : Member) → HasEntry f (family 0 (one ∷ two ∷ [])) m →
      HasEntry g (is_among (reached_nodes 0 (family 0 (one ∷ two ∷ [])) (λ _. false) g)) m
  sink_then m (x, (inside, held)) =
      let new_holder : In m (entries_of (f p.child) ++ entries_of (f q.child)) →
      HasEntry g (is_among (reached_nodes 0 (family 0 (one ∷ two ∷ [])) (λ _. false) g)) m =
      λ there. (
        0,
        (
          subst (λ l. is_among l 0 ≡ true) (sym reached_sink) (among (0 ∷ []) 0 (times_head 0 [])),
          in_contains (entries_of (g 0)) m (subst (λ es. In m es) members_now there),
        ),
      ) in
      one_of_three (λ y. In m (entries_of (f y)) →
      HasEntry g (is_among (reached_nodes 0 (family 0 (one ∷ two ∷ [])) (λ _. false) g)) m) 0
      p.child q.child
      (λ here. absurd (root_has_none m here))
      (λ here. new_holder (in_left (entries_of (f p.child)) (entries_of (f q.child)) m here))
      (λ here. new_holder (in_right (entries_of (f p.child)) (entries_of (f q.child)) m here))
      x (or_left (family 0 (one ∷ two ∷ []) x) false inside) (contains_in (entries_of (f x)) m held)

  pub sink_changes : IsChangeOf f live 0 (0 ∷ p.child ∷ q.child ∷ []) [] g None (0 ∷ [])
  sink_changes = named f live 0 (family 0 (one ∷ two ∷ [])) (λ _. false)
      (0 ∷ p.child ∷ q.child ∷ []) [] g None (0 ∷ [])
      (listed_family 0 (p.child ∷ q.child ∷ [])) (λ x. refl)
      (record {
        change = sink_change;
        filled = subst (AllByRecursion (λ y. IsFilled y (g y))) (sym reached_sink) (
          subst (IsFilled 0) (sym new_root)
              (root_joined p.child (f p.child).body (f q.child).body sink.fit
              (lawful.filled p.child left.alive)),
          tt,
        );
        entries = λ m. (sink_now m, sink_then m);
      })
      reached_sink

  outside_three : (x : ℕ) → x ≢ p.child → x ≢ q.child →
      without_node p.child (without_node q.child live) x ≡ live x
  outside_three x not_p not_q = without_other (without_node q.child live) p.child x not_p
      ∙ without_other live q.child x not_q

  pub sink_keeps : Keeps f live g (without_node p.child (without_node q.child live))
  sink_keeps =
      let group = 0 ∷ p.child ∷ q.child ∷ [] in
      keeps_now f live (without_node p.child (without_node q.child live)) 0 group [] g (0 ∷ [])
      lawful sink_changes (
        outside_three 0 (λ e. left.no_root (sym e)) (λ e. at.no_root (sym e))
            ∙ root_live f live lawful.tree
            ∙ sym (among (0 ∷ []) 0 (times_head 0 [])),
        (
          without_itself (without_node q.child live) p.child
              ∙ sym (not_among (0 ∷ []) p.child (omega (arith, once_other p.child 0 left.no_root))),
          (
            without_other (without_node q.child live) p.child q.child (λ e. at.different (sym e))
                ∙ without_itself live q.child
                ∙ sym (not_among (0 ∷ []) q.child (omega (arith, once_other q.child 0 at.no_root))),
            tt,
          ),
        ),
      )
      tt
      (λ x not_group not_fresh. outside_three x
      (not_one group x p.child not_group (second 0 p.child (q.child ∷ [])))
      (not_one group x q.child not_group (third 0 p.child q.child [])))

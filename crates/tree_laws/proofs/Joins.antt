-- The laws of joining two children, and of giving them even shares.
use Rattle.std.proofs.Common.{◌≡◌, ◌≢◌, ℕ, zero, suc, ◌+◌, ◌/◌, ◌<◌, ◌≤◌, List, [], ◌∷◌, ◌++◌}
use Rattle.std.proofs.Common.{length, map, refl, ap, sym, ◌∙◌, subst, arith, Bool, false, ◌||◌}
use Rattle.std.proofs.Common.{IsTrue, eqb, inl, inr, Some}
use Rattle.std.specs.Prelude.{None}
use Rattle.std.specs.List.{slice_get}
use Rattle.std.proofs.lemmas.Bool.{cases_eq, eqb-true, eqb-false, or_left, or_right, or_cases}
use Rattle.std.proofs.lemmas.Bool.{or_parts, both_ways}
use Rattle.std.proofs.lemmas.List.{append-nil, length-append, map-append}
use Rattle.std.proofs.Math.Numerals.{add-one}
use Rattle.tree_shape.specs.declared.pair.Pair.{Pair}
use Rattle.tree_laws.specs.Numbers.{times, once, is_among}
use Rattle.tree_shape.specs.NodeData.{NodeData, entries_of, pairs_of, Cut}
use Rattle.tree_shape.specs.Changes.{first_half, joined, at_slot, swallow_next, separate_at}
use Rattle.tree_shape.specs.Changes.{first_part, body_end, size}
use Rattle.tree_laws.specs.Trees.{Contents, Branch, branch, branches_from, branches, nodes}
use Rattle.tree_laws.specs.Lawful.{IsTree, IsLawfulTree, IsOrdered, IsFilled, FitsParent}
use Rattle.tree_laws.specs.LocalChange.{IsChangeOf, either}
use Rattle.tree_laws.specs.Steps.{Keeps, IsJoin, IsShare, without_node}
use Rattle.tree_laws.proofs.Times.{In, some_same, once_same, once_other, once_most, times-append}
use Rattle.tree_laws.proofs.Times.{times_head, times_under, in_right}
use Rattle.tree_laws.proofs.Reach.{children}
use Rattle.tree_laws.proofs.Living.{root_live, own_branches, own_at, child_live, child_fits}
use Rattle.tree_laws.proofs.Living.{live_node, one_way, parents, root_no_child, own_child}
use Rattle.tree_laws.proofs.Runs.{SameKind, next_low, branches-append, JoinsTo, joins, CutsTo}
use Rattle.tree_laws.proofs.Runs.{cuts}
use Rattle.tree_laws.proofs.Family.{numbers, family, exits_of, Regroups}
use Rattle.tree_laws.proofs.Slotted.{around_slot, ordered_pairs, Slotted, slotted, family_changes}
use Rattle.tree_laws.proofs.Listed.{keeps_now, without_other, without_itself}
use Rattle.tree_laws.proofs.Halves.{among, not_among, not_one, one_of, two_of, once_two, second}
use Rattle.tree_laws.proofs.Halves.{third, pairs_filled, fit_kind, overfill_kind, joined_filled}
use Rattle.tree_laws.proofs.Halves.{shares, shares_filled}

-- a node is a child of a live node once at most
pub one_child : (f : Contents) (live : ℕ → Bool) → IsTree f live → (n x : ℕ) → IsTrue (live n) → times x (children f n) ≤ 1
one_child f live tree n x alive =
    let sum = parents f live tree x (f 0).level 0 (root_live f live tree) refl in
    let brought = times_under (children f) (nodes f) n x (live_node f live tree n alive) in
    omega (arith, one_way f live tree x)

-- the next pair
head_is : (pairs : List Pair) (q : Pair) → slice_get pairs 0 ≡ Some q → (rest : List Pair) × (pairs ≡ q ∷ rest)
head_is [] q at = absurd (cc)
head_is (p ∷ pairs) q at = (pairs, ap (λ x. x ∷ pairs) (some_same p q at))

-- Two neighbouring children of a live node.
pub record Neighbours (f : Contents) (live : ℕ → Bool) (n slot : ℕ) (p q : Pair) : Type 0 where
  pub front : List Pair
  pub back : List Pair
  pub is : pairs_of (f n) ≡ front ++ p ∷ q ∷ back
  pub changed : (change : Pair → List Pair → List Pair) → at_slot change slot (pairs_of (f n)) ≡ front ++ change p (q ∷ back)
  pub left : Slotted f live n front p (q ∷ back)
  pub alive : IsTrue (live q.child)
  pub fits : FitsParent f (branch q.child left.level (p.separator + 1) q.separator)
  pub no_root : q.child ≢ 0
  pub no_parent : q.child ≢ n
  pub different : p.child ≢ q.child
  pub cut : (0 < (f n).level) × Cut (f n).low (f n).high (front ++ p ∷ q ∷ back)
  pub left_order : next_low (f n).low front ≤ p.separator
  pub right_order : p.separator < q.separator
  pub count : length (pairs_of (f n)) ≡ length front + suc (suc (length back))

cut_at : (low high : ℕ) (front : List Pair) (p q : Pair) (back : List Pair) → Cut low high (front ++ p ∷ q ∷ back) → (next_low low front ≤ p.separator) × (p.separator < q.separator)
cut_at low high [] p q back cut = (cut.0, omega (arith, cut.1.0))
cut_at low high (r ∷ front) p q back cut = cut_at (r.separator + 1) high front p q back cut.1

pub neighbours : (f : Contents) (live : ℕ → Bool) → IsTree f live → (n slot : ℕ) (p q : Pair) → IsTrue (live n) → slice_get (pairs_of (f n)) slot ≡ Some p → slice_get (pairs_of (f n)) (slot + 1) ≡ Some q →
    Neighbours f live n slot p q
neighbours f live tree n slot p q alive at next =
    let place = around_slot (pairs_of (f n)) slot p at in
    let next' : slice_get (pairs_of (f n)) (suc slot) ≡ Some q = ap (slice_get (pairs_of (f n))) (sym (add-one slot)) ∙ next in
    let more = head_is place.back q (sym place.next ∙ next') in
    let is : pairs_of (f n) ≡ place.front ++ p ∷ q ∷ more.0 = place.is ∙ ap (λ ps. place.front ++ p ∷ ps) more.1 in
    let left = slotted f live tree n alive place.front p (q ∷ more.0) is in
    let count : length (pairs_of (f n)) ≡ length place.front + suc (suc (length more.0)) = ap length is ∙ length-append place.front (p ∷ q ∷ more.0) in
    let b : Branch = branch q.child left.level (p.separator + 1) q.separator in
    let a : Branch = branch p.child left.level (next_low (f n).low place.front) p.separator in
    let own : In b (own_branches f n) = subst (λ bs. In b bs) (sym (own_at f n left.level left.at ∙ left.before))
    (in_right (branches_from left.level (f n).low place.front) (a ∷ b ∷ branches_from left.level (q.separator + 1) more.0) b (inr (inl refl))) in
    let fits = child_fits f live tree n alive b own in
    let cut0 = ordered_pairs (f n) (f n).body (tree.ordered n alive) (omega arith) in
    let cut : Cut (f n).low (f n).high (place.front ++ p ∷ q ∷ more.0) = subst (λ ps. Cut (f n).low (f n).high ps) is cut0.1 in
    let order = cut_at (f n).low (f n).high place.front p q more.0 cut in
    let twice : (x : ℕ) → times x (children f n) ≡ times x (map (λ (r : Pair). r.child) place.front) + (once (eqb x p.child) + (once (eqb x q.child) + times x (map (λ (r : Pair). r.child) more.0))) =
    λ x. ap (λ ps. times x (map (λ (r : Pair). r.child) ps)) is
    ∙ ap (times x) (map-append (λ (r : Pair). r.child) place.front (p ∷ q ∷ more.0))
    ∙ times-append x (map (λ (r : Pair). r.child) place.front) (p.child ∷ q.child ∷ map (λ (r : Pair). r.child) more.0) in
    record {
      front = place.front;
      back = more.0;
      is = is;
      changed = λ change. place.changed change ∙ ap (λ ps. place.front ++ change p ps) more.1;
      left = left;
      alive = child_live f live tree n alive b own;
      fits = fits;
      no_root = λ e. root_no_child f live tree n alive (subst (λ x. 0 < times x (children f n)) e (own_child f n b own));
      no_parent = λ e. (let same : (f q.child).level ≡ (f n).level = ap (λ x. (f x).level) e in let level = fits.level in let at' = left.at in absurd (omega arith));
      different = λ e. (let same : once (eqb p.child q.child) ≡ 1 = ap (λ x. once (eqb p.child x)) (sym e) ∙ once_same p.child in
          absurd (omega (arith, twice p.child, one_child f live tree n p.child alive, once_same p.child)));
      cut = (cut0.0, cut);
      left_order = order.0;
      right_order = order.1;
      count = count;
    }

-- the two nodes as one
pub neighbours_join : (f : Contents) (live : ℕ → Bool) → IsTree f live → (n slot : ℕ) (p q : Pair) → (at : Neighbours f live n slot p q) → SameKind (f p.child).body (f q.child).body →
    JoinsTo (f p.child) (f q.child) (joined (f p.child) (f q.child))
neighbours_join f live tree n slot p q at kind =
    let s = f p.child in
    let t = f q.child in
    let left = at.left.fits in
    let right = at.fits in
    joins s.level s.low s.high s.body t.level t.low t.high t.body (tree.ordered p.child at.left.alive) (tree.ordered q.child at.alive) kind
    (right.low ∙ ap (λ x. x + 1) (sym left.high))
    (omega (arith, left.low, left.high, at.left_order)) (omega (arith, left.high, right.high, at.right_order))

cut_swallowed : (low high : ℕ) (front back : List Pair) (p q : Pair) → Cut low high (front ++ p ∷ q ∷ back) → Cut low high (front ++ swallow_next p (q ∷ back))
cut_swallowed low high [] back p q cut = (omega (arith, cut.0, cut.1.0), cut.1.1)
cut_swallowed low high (r ∷ front) back p q cut = (cut.0, cut_swallowed (r.separator + 1) high front back p q cut.1)

pub cut_separated : (low high : ℕ) (front back : List Pair) (p q : Pair) (fence : ℕ) → Cut low high (front ++ p ∷ q ∷ back) → next_low low front ≤ fence → fence < q.separator →
    Cut low high (front ++ separate_at fence p (q ∷ back))
cut_separated low high [] back p q fence cut above below = (above, (omega arith, cut.1.1))
cut_separated low high (r ∷ front) back p q fence cut above below = (cut.0, cut_separated (r.separator + 1) high front back p q fence cut.1 above below)

join_exits : (f g : Contents) (level c d : ℕ) → JoinsTo (f c) (f d) (g c) → exits_of g level c ++ [] ≡ exits_of f level c ++ (exits_of f level d ++ [])
join_exits f g zero c d join = refl
join_exits f g (suc level) c d join = append-nil (branches level (g c)) ∙ sym (join.children level) ∙ ap (λ l. branches level (f c) ++ l) (sym (append-nil (branches level (f d))))

-- a node that is none of three
pub none_of : (n c d x : ℕ) (old : List Branch) → numbers old ≡ c ∷ d ∷ [] → either (family n old) (λ _. false) x ≡ false → (x ≢ n) × (x ≢ c) × (x ≢ d)
none_of n c d x old is outside =
    let parts = or_parts (family n old x) false outside in
    let inner = or_parts (eqb x n) (is_among (numbers old) x) parts.0 in
    let among' : is_among (c ∷ d ∷ []) x ≡ false = ap (λ l. is_among l x) (sym is) ∙ inner.1 in
    (eqb-false x n inner.0, not_one (c ∷ d ∷ []) x c among' (times_head c (d ∷ [])), not_one (c ∷ d ∷ []) x d among' (second c d []))

-- one of a family of three
pub one_of_three : (P : ℕ → Type 0) (n c d : ℕ) → P n → P c → P d → (x : ℕ) → IsTrue (either (λ y. eqb y n || is_among (c ∷ d ∷ []) y) (λ _. false) x) → P x
one_of_three P n c d pn pc pd x touched = elim (or_cases (eqb x n || is_among (c ∷ d ∷ []) x) false touched) [
  | inr none ↦ absurd (cc (none))
  | inl inside ↦ elim (or_cases (eqb x n) (is_among (c ∷ d ∷ []) x) inside) [
    | inl is_n ↦ subst P (sym (eqb-true x n is_n)) pn
    | inr there ↦ elim (cases_eq x c) [
      | inl e ↦ subst P (sym e) pc
      | inr not_c ↦ elim (cases_eq x d) [
        | inl e ↦ subst P (sym e) pd
        | inr not_d ↦ absurd (both_ways (is_among (c ∷ d ∷ []) x) (not_among (c ∷ d ∷ []) x (omega (arith, once_other x c not_c, once_other x d not_d))) there)
      ]
    ]
  ]
]

pub join_changes : (f : Contents) (live : ℕ → Bool) → IsLawfulTree f live →
    (n slot : ℕ) (p q : Pair) (g : Contents) →
    IsJoin f live n slot p q g → IsChangeOf f live n (n ∷ p.child ∷ q.child ∷ []) [] g None
    (n ∷ p.child ∷ [])
join_changes f live lawful n slot p q g join =
    let at = neighbours f live lawful.tree n slot p q join.live_parent join.at join.next in
    let left = at.left.fits in
    let right = at.fits in
    let low = next_low (f n).low at.front in
    let level = at.left.level in
    let one : Branch = branch p.child level low p.separator in
    let two : Branch = branch q.child level (p.separator + 1) q.separator in
    let both' : Branch = branch p.child level low q.separator in
    let whole = neighbours_join f live lawful.tree n slot p q at (fit_kind (f p.child).body (f q.child).body join.fit) in
    let piece : JoinsTo (f p.child) (f q.child) (g p.child) = subst (λ x. JoinsTo (f p.child) (f q.child) x) (sym join.left) whole in
    let pairs_now : pairs_of (g n) ≡ at.front ++ swallow_next p (q ∷ at.back) = ap pairs_of join.above ∙ at.changed swallow_next in
    let count : length (at_slot swallow_next slot (pairs_of (f n))) ≡ length at.front + suc (length at.back) =
    ap length (at.changed swallow_next) ∙ length-append at.front (swallow_next p (q ∷ at.back)) in
    let count_before = at.count in
    let before = pairs_filled n (f n).body (lawful.filled n join.live_parent) (omega arith) in
    let spare = join.spare in
    let regroup : Regroups f live n level (branches_from level (f n).low at.front) (one ∷ two ∷ []) (both' ∷ []) (branches_from level (q.separator + 1) at.back) (λ _. false) g = record {
      alive = join.live_parent;
      at = at.left.at;
      before = at.left.before;
      free = λ x none. absurd (cc (none));
      stays = λ x outside. (let apart = none_of n p.child q.child x (one ∷ two ∷ []) refl outside in join.others x apart.0 apart.1 apart.2);
      low = ap (λ x. x.low) join.above;
      high = ap (λ x. x.high) join.above;
      still_at = ap (λ x. x.level) join.above ∙ at.left.at;
      after = ap (branches_from level (g n).low) pairs_now ∙ ap (λ l. branches_from level l (at.front ++ swallow_next p (q ∷ at.back))) (ap (λ x. x.low) join.above)
          ∙ branches-append level (f n).low at.front (swallow_next p (q ∷ at.back));
      touched = one_of (λ b. IsTrue (either (family n (one ∷ two ∷ [])) (λ _. false) b.child)) both'
          (or_left (family n (one ∷ two ∷ []) p.child) false (or_right (eqb p.child n) (is_among (p.child ∷ q.child ∷ []) p.child) (among (p.child ∷ q.child ∷ []) p.child (times_head p.child (q.child ∷ [])))));
      below_top = one_of (λ b. b.child ≢ n) both' at.left.no_parent;
      once_each = λ x. omega (arith, once_most (eqb x p.child));
      children = join_exits f g level p.child q.child piece;
      top_ordered = subst IsOrdered (sym join.above) (
        at.cut.0,
        subst (λ ps. Cut (f n).low (f n).high ps) (sym (at.changed swallow_next)) (cut_swallowed (f n).low (f n).high at.front at.back p q at.cut.1),
      );
      ordered = one_of (λ b. IsOrdered (g b.child)) both' piece.ordered;
      fits = one_of (FitsParent g) both' (record {
        level = ap (λ x. x.level) join.left ∙ left.level;
        low = ap (λ x. x.low) join.left ∙ left.low;
        high = ap (λ x. x.high) join.left ∙ right.high;
      });
    } in
    family_changes f live lawful.tree n level (branches_from level (f n).low at.front)
    (one ∷ two ∷ []) (both' ∷ []) (branches_from level (q.separator + 1) at.back) (λ _. false)
    [] g
    regroup (λ x. refl)
    (append-nil (entries_of (g p.child)) ∙ sym piece.members ∙ ap (λ l. entries_of (f p.child) ++ l) (sym (append-nil (entries_of (f q.child)))))
    (subst (IsFilled n) (sym join.above) (omega arith, omega arith))
    (one_of (λ b. IsFilled b.child (g b.child)) both'
    (subst (IsFilled p.child) (sym join.left) (joined_filled p.child (f p.child).body (f q.child).body join.fit (lawful.filled p.child at.left.alive))))

pub join_keeps : (f : Contents) (live : ℕ → Bool) → IsLawfulTree f live →
    (n slot : ℕ) (p q : Pair) (g : Contents) →
    IsJoin f live n slot p q g → Keeps f live g (without_node q.child live)
join_keeps f live lawful n slot p q g join =
    let at = neighbours f live lawful.tree n slot p q join.live_parent join.at join.next in
    let group = n ∷ p.child ∷ q.child ∷ [] in
    let now = n ∷ p.child ∷ [] in
    keeps_now f live (without_node q.child live) n group [] g now lawful
    (join_changes f live lawful n slot p q g join) (
      without_other live q.child n (λ e. at.no_parent (sym e)) ∙ join.live_parent
          ∙ sym (among now n (times_head n (p.child ∷ []))),
      (
        without_other live q.child p.child at.different ∙ at.left.alive
            ∙ sym (among now p.child (second n p.child [])),
        (
          without_itself live q.child
              ∙ sym (not_among now q.child
              (omega (
                arith,
                once_other q.child n at.no_parent,
                once_other q.child p.child (λ e. at.different (sym e)),
              ))),
          tt,
        ),
      ),
    )
    tt
    (λ x not_group not_fresh. without_other live q.child x
    (not_one group x q.child not_group (third n p.child q.child [])))

share_exits : (f g : Contents) (level c d : ℕ) (s : NodeData) → JoinsTo (f c) (f d) s → CutsTo s (g c) (g d) →
    exits_of g level c ++ (exits_of g level d ++ []) ≡ exits_of f level c ++ (exits_of f level d ++ [])
share_exits f g zero c d s join cut = refl
share_exits f g (suc level) c d s join cut =
    ap (λ l. branches level (g c) ++ l) (append-nil (branches level (g d))) ∙ cut.children level
    ∙ sym (join.children level) ∙ ap (λ l. branches level (f c) ++ l) (sym (append-nil (branches level (f d))))

pub share_changes : (f : Contents) (live : ℕ → Bool) → IsLawfulTree f live →
    (n slot : ℕ) (p q : Pair) (g : Contents) →
    IsShare f live n slot p q g → IsChangeOf f live n (n ∷ p.child ∷ q.child ∷ []) [] g None
    (n ∷ p.child ∷ q.child ∷ [])
share_changes f live lawful n slot p q g share =
    let at = neighbours f live lawful.tree n slot p q share.live_parent share.at share.next in
    let left = at.left.fits in
    let right = at.fits in
    let low = next_low (f n).low at.front in
    let level = at.left.level in
    let s = joined (f p.child) (f q.child) in
    let h = (size (f p.child).body + size (f q.child).body) / 2 in
    let fence = body_end (first_part h s.body) in
    let one : Branch = branch p.child level low p.separator in
    let two : Branch = branch q.child level (p.separator + 1) q.separator in
    let one' : Branch = branch p.child level low fence in
    let two' : Branch = branch q.child level (fence + 1) q.separator in
    let whole = neighbours_join f live lawful.tree n slot p q at (overfill_kind (f p.child).body (f q.child).body share.overfill) in
    let some = shares (f p.child).body (f q.child).body share.overfill in
    let halves = cuts h s.level s.low s.high s.body whole.ordered some.0 some.1 in
    let pieces : CutsTo s (g p.child) (g q.child) = subst (λ x. CutsTo s x (g q.child)) (sym share.left) (subst (λ x. CutsTo s (first_half h s) x) (sym share.right) halves) in
    let above : low ≤ fence = omega (arith, halves.above, left.low) in
    let below : fence < q.separator = omega (arith, halves.below, right.high) in
    let pairs_now : pairs_of (g n) ≡ at.front ++ separate_at fence p (q ∷ at.back) = ap pairs_of share.above ∙ at.changed (separate_at fence) in
    let count : length (at_slot (separate_at fence) slot (pairs_of (f n))) ≡ length at.front + suc (suc (length at.back)) =
    ap length (at.changed (separate_at fence)) ∙ length-append at.front (separate_at fence p (q ∷ at.back)) in
    let count_before = at.count in
    let before = pairs_filled n (f n).body (lawful.filled n share.live_parent) (omega arith) in
    let regroup : Regroups f live n level (branches_from level (f n).low at.front) (one ∷ two ∷ []) (one' ∷ two' ∷ []) (branches_from level (q.separator + 1) at.back) (λ _. false) g = record {
      alive = share.live_parent;
      at = at.left.at;
      before = at.left.before;
      free = λ x none. absurd (cc (none));
      stays = λ x outside. (let apart = none_of n p.child q.child x (one ∷ two ∷ []) refl outside in share.others x apart.0 apart.1 apart.2);
      low = ap (λ x. x.low) share.above;
      high = ap (λ x. x.high) share.above;
      still_at = ap (λ x. x.level) share.above ∙ at.left.at;
      after = ap (branches_from level (g n).low) pairs_now ∙ ap (λ l. branches_from level l (at.front ++ separate_at fence p (q ∷ at.back))) (ap (λ x. x.low) share.above)
          ∙ branches-append level (f n).low at.front (separate_at fence p (q ∷ at.back));
      touched = two_of (λ b. IsTrue (either (family n (one ∷ two ∷ [])) (λ _. false) b.child)) one' two'
          (or_left (family n (one ∷ two ∷ []) p.child) false (or_right (eqb p.child n) (is_among (p.child ∷ q.child ∷ []) p.child) (among (p.child ∷ q.child ∷ []) p.child (times_head p.child (q.child ∷ [])))))
          (or_left (family n (one ∷ two ∷ []) q.child) false (or_right (eqb q.child n) (is_among (p.child ∷ q.child ∷ []) q.child) (among (p.child ∷ q.child ∷ []) q.child (second p.child q.child []))));
      below_top = two_of (λ b. b.child ≢ n) one' two' at.left.no_parent at.no_parent;
      once_each = λ x. once_two x p.child q.child at.different;
      children = share_exits f g level p.child q.child s whole pieces;
      top_ordered = subst IsOrdered (sym share.above) (
        at.cut.0,
        subst (λ ps. Cut (f n).low (f n).high ps) (sym (at.changed (separate_at fence))) (cut_separated (f n).low (f n).high at.front at.back p q fence at.cut.1 above below),
      );
      ordered = two_of (λ b. IsOrdered (g b.child)) one' two' pieces.first_ordered pieces.last_ordered;
      fits = two_of (FitsParent g) one' two'
          (record { level = pieces.first_level ∙ left.level; low = pieces.low ∙ left.low; high = ap (λ x. x.high) share.left })
          (record { level = pieces.last_level ∙ left.level; low = ap (λ x. x.low) share.right; high = pieces.high ∙ right.high });
    } in
    let filled = shares_filled p.child q.child p.child q.child (f p.child).body (f q.child).body at.left.no_root at.no_root share.overfill
    (lawful.filled p.child at.left.alive) (lawful.filled q.child at.alive) in
    family_changes f live lawful.tree n level (branches_from level (f n).low at.front)
    (one ∷ two ∷ []) (one' ∷ two' ∷ []) (branches_from level (q.separator + 1) at.back)
    (λ _. false) [] g
    regroup (λ x. refl)
    (ap (λ l. entries_of (g p.child) ++ l) (append-nil (entries_of (g q.child))) ∙ pieces.members ∙ sym whole.members
    ∙ ap (λ l. entries_of (f p.child) ++ l) (sym (append-nil (entries_of (f q.child)))))
    (subst (IsFilled n) (sym share.above) (omega arith, omega arith))
    (two_of (λ b. IsFilled b.child (g b.child)) one' two' (subst (IsFilled p.child) (sym share.left) filled.0) (subst (IsFilled q.child) (sym share.right) filled.1))

pub share_keeps : (f : Contents) (live : ℕ → Bool) → IsLawfulTree f live →
    (n slot : ℕ) (p q : Pair) (g : Contents) →
    IsShare f live n slot p q g → Keeps f live g live
share_keeps f live lawful n slot p q g share =
    let at = neighbours f live lawful.tree n slot p q share.live_parent share.at share.next in
    let group = n ∷ p.child ∷ q.child ∷ [] in
    keeps_now f live live n group [] g group lawful (share_changes f live lawful n slot p q g share) (
      share.live_parent ∙ sym (among group n (times_head n (p.child ∷ q.child ∷ []))),
      (
        at.left.alive ∙ sym (among group p.child (second n p.child (q.child ∷ []))),
        (at.alive ∙ sym (among group q.child (third n p.child q.child [])), tt),
      ),
    )
    tt
    (λ x not_group not_fresh. refl)

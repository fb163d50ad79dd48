-- The law of splitting a child.
use Rattle.std.proofs.Common.{◌≡◌, ◌≢◌, ℕ, zero, suc, ◌+◌, ◌<◌, ◌≤◌, List, [], ◌∷◌, ◌++◌, length}
use Rattle.std.proofs.Common.{refl, ap, sym, ◌∙◌, subst, arith, Bool, false, IsTrue, eqb}
use Rattle.std.specs.Prelude.{None}
use Rattle.std.proofs.lemmas.Bool.{eq-eqb, eqb-true, eqb-false, or_left, or_right, or_parts}
use Rattle.std.proofs.lemmas.Bool.{both_ways}
use Rattle.std.proofs.lemmas.List.{append-nil, length-append}
use Rattle.tree_shape.specs.declared.pair.Pair.{Pair}
use Rattle.tree_laws.specs.Numbers.{is_among}
use Rattle.tree_shape.specs.NodeData.{entries_of, pairs_of, Cut}
use Rattle.tree_shape.specs.Changes.{first_half, at_slot, divide, first_part, body_end}
use Rattle.tree_laws.specs.Trees.{Contents, Branch, branch, branches_from, branches}
use Rattle.tree_laws.specs.Lawful.{IsLawfulTree, IsOrdered, IsFilled, FitsParent}
use Rattle.tree_laws.specs.LocalChange.{IsChangeOf, either}
use Rattle.tree_laws.specs.Steps.{Keeps, IsSplit, with_node, middle}
use Rattle.tree_laws.proofs.Times.{listed_one, times_head}
use Rattle.tree_laws.proofs.Living.{root_live}
use Rattle.tree_laws.proofs.Runs.{next_low, branches-append, CutsTo, cuts}
use Rattle.tree_laws.proofs.Family.{family, exits_of, Regroups}
use Rattle.tree_laws.proofs.Slotted.{around_slot, ordered_pairs, slotted, family_changes}
use Rattle.tree_laws.proofs.Listed.{keeps_now, with_fresh, with_itself, with_other}
use Rattle.tree_laws.proofs.Halves.{among, not_one, two_of, once_two, second, third, full_middle}
use Rattle.tree_laws.proofs.Halves.{pairs_filled, halves_filled}

-- the addresses of a slot, cut at a new separator
pub cut_divided : (low high : ℕ) (front back : List Pair) (p : Pair) (separator child : ℕ) → Cut low high (front ++ p ∷ back) → next_low low front ≤ separator → separator < p.separator →
    Cut low high (front ++ divide separator child p back)
cut_divided low high [] back p separator child cut above below = (above, (omega arith, cut.1))
cut_divided low high (q ∷ front) back p separator child cut above below = (cut.0, cut_divided (q.separator + 1) high front back p separator child cut.1 above below)

-- the children of a child that is cut
pub cut_exits : (f g : Contents) (level c r : ℕ) → CutsTo (f c) (g c) (g r) → exits_of g level c ++ (exits_of g level r ++ []) ≡ exits_of f level c ++ []
cut_exits f g zero c r cut = refl
cut_exits f g (suc level) c r cut = ap (λ l. branches level (g c) ++ l) (append-nil (branches level (g r))) ∙ cut.children level ∙ sym (append-nil (branches level (f c)))

-- A live node of which a child is split: what the law's two parts both use.
pub split_changes : (f : Contents) (live : ℕ → Bool) → IsLawfulTree f live →
    (n slot : ℕ) (p : Pair) (r : ℕ) (g : Contents) →
    IsSplit f live n slot p r g → IsChangeOf f live n (n ∷ p.child ∷ []) (r ∷ []) g None
    (n ∷ p.child ∷ r ∷ [])
split_changes f live lawful n slot p r g split =
    let tree = lawful.tree in
    let s = f p.child in
    let h = middle s.body in
    let fence = body_end (first_part h s.body) in
    let place = around_slot (pairs_of (f n)) slot p split.at in
    let at = slotted f live tree n split.live_parent place.front p place.back place.is in
    let mid = full_middle s.body split.full in
    let halves = cuts h s.level s.low s.high s.body (tree.ordered p.child at.alive) mid.0 mid.1 in
    let pieces : CutsTo s (g p.child) (g r) = subst (λ x. CutsTo s x (g r)) (sym split.left) (subst (λ x. CutsTo s (first_half h s) x) (sym split.right) halves) in
    let low = next_low (f n).low place.front in
    let old : Branch = branch p.child at.level low p.separator in
    let one : Branch = branch p.child at.level low fence in
    let two : Branch = branch r at.level (fence + 1) p.separator in
    let pairs_now : pairs_of (g n) ≡ place.front ++ divide fence r p place.back = ap pairs_of split.above ∙ place.changed (divide fence r) in
    let fits = at.fits in
    let above : low ≤ fence = omega (arith, halves.above, fits.low) in
    let below : fence < p.separator = omega (arith, halves.below, fits.high) in
    let r_other : (x : ℕ) → IsTrue (live x) → r ≢ x = λ x alive e. both_ways (live r) split.free (subst (λ y. IsTrue (live y)) (sym e) alive) in
    let len : length (pairs_of (f n)) ≡ length place.front + suc (length place.back) = ap length place.is ∙ length-append place.front (p ∷ place.back) in
    let len_now : length (pairs_of (g n)) ≡ length place.front + suc (suc (length place.back)) = ap length pairs_now ∙ length-append place.front (divide fence r p place.back) in
    let now_level : (g n).level ≡ suc at.level = ap (λ x. x.level) split.above ∙ at.at in
    let regroup : Regroups f live n at.level (branches_from at.level (f n).low place.front) (old ∷ []) (one ∷ two ∷ []) (branches_from at.level (p.separator + 1) place.back) (λ x. eqb x r) g = record {
      alive = split.live_parent;
      at = at.at;
      before = at.before;
      free = λ x new. subst (λ y. live y ≡ false) (sym (eqb-true x r new)) split.free;
      stays = λ x outside.
          let parts = or_parts (family n (old ∷ []) x) (eqb x r) outside in
          let inner = or_parts (eqb x n) (is_among (p.child ∷ []) x) parts.0 in
          split.others x (eqb-false x n inner.0) (not_one (p.child ∷ []) x p.child inner.1 (times_head p.child [])) (eqb-false x r parts.1);
      low = ap (λ x. x.low) split.above;
      high = ap (λ x. x.high) split.above;
      still_at = now_level;
      after = ap (branches_from at.level (g n).low) pairs_now ∙ ap (λ l. branches_from at.level l (place.front ++ divide fence r p place.back)) (ap (λ x. x.low) split.above)
          ∙ branches-append at.level (f n).low place.front (divide fence r p place.back);
      touched = two_of (λ b. IsTrue (either (family n (old ∷ [])) (λ x. eqb x r) b.child)) one two
          (or_left (family n (old ∷ []) p.child) (eqb p.child r) (or_right (eqb p.child n) (is_among (p.child ∷ []) p.child) (among (p.child ∷ []) p.child (times_head p.child []))))
          (or_right (family n (old ∷ []) r) (eqb r r) (eq-eqb r r refl));
      below_top = two_of (λ b. b.child ≢ n) one two at.no_parent (r_other n split.live_parent);
      once_each = λ x. once_two x p.child r (λ e. r_other p.child at.alive (sym e));
      children = cut_exits f g at.level p.child r pieces;
      top_ordered = subst IsOrdered (sym split.above) (
        omega arith,
        subst (λ ps. Cut (f n).low (f n).high ps) (sym (place.changed (divide fence r)))
            (cut_divided (f n).low (f n).high place.front place.back p fence r
            (subst (λ ps. Cut (f n).low (f n).high ps) place.is (ordered_pairs (f n) (f n).body (tree.ordered n split.live_parent) (omega arith)).1) above below),
      );
      ordered = two_of (λ b. IsOrdered (g b.child)) one two pieces.first_ordered pieces.last_ordered;
      fits = two_of (FitsParent g) one two
          (record { level = pieces.first_level ∙ fits.level; low = pieces.low ∙ fits.low; high = ap (λ x. x.high) split.left })
          (record { level = pieces.last_level ∙ fits.level; low = ap (λ x. x.low) split.right; high = pieces.high ∙ fits.high });
    } in
    let count : length (at_slot (divide fence r) slot (pairs_of (f n))) ≡ length place.front + suc (suc (length place.back)) =
    ap length (place.changed (divide fence r)) ∙ length-append place.front (divide fence r p place.back) in
    let room = split.room in
    let before = pairs_filled n (f n).body (lawful.filled n split.live_parent) (omega (arith, len))
    in
    let full' = halves_filled p.child r s at.no_root (r_other 0 (root_live f live tree)) split.full in
    family_changes f live tree n at.level (branches_from at.level (f n).low place.front) (old ∷ [])
    (one ∷ two ∷ []) (branches_from at.level (p.separator + 1) place.back) (λ x. eqb x r)
    (r ∷ []) g
    regroup (listed_one r)
    (ap (λ l. entries_of (g p.child) ++ l) (append-nil (entries_of (g r))) ∙ pieces.members ∙ sym (append-nil (entries_of s)))
    (subst (IsFilled n) (sym split.above) (omega (arith, before.0), omega arith))
    (two_of (λ b. IsFilled b.child (g b.child)) one two (subst (IsFilled p.child) (sym split.left) full'.0) (subst (IsFilled r) (sym split.right) full'.1))

pub split_keeps : (f : Contents) (live : ℕ → Bool) → IsLawfulTree f live →
    (n slot : ℕ) (p : Pair) (r : ℕ) (g : Contents) →
    IsSplit f live n slot p r g → Keeps f live g (with_node r live)
split_keeps f live lawful n slot p r g split =
    let place = around_slot (pairs_of (f n)) slot p split.at in
    let at = slotted f live lawful.tree n split.live_parent place.front p place.back place.is in
    let now = n ∷ p.child ∷ r ∷ [] in
    keeps_now f live (with_node r live) n (n ∷ p.child ∷ []) (r ∷ []) g now lawful
    (split_changes f live lawful n slot p r g split) (
      with_fresh live r split.free n split.live_parent
          ∙ sym (among now n (times_head n (p.child ∷ r ∷ []))),
      (
        with_fresh live r split.free p.child at.alive
            ∙ sym (among now p.child (second n p.child (r ∷ []))),
        tt,
      ),
    )
    (with_itself live r ∙ sym (among now r (third n p.child r [])), tt)
    (λ x not_group not_fresh. with_other live r x
    (not_one (r ∷ []) x r not_fresh (times_head r [])))

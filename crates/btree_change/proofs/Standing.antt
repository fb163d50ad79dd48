-- Where an insertion stands after a step down: what it holds is of one tree, and the node above both
-- leaves is known where the span ends beyond the child.
use Rattle.std.proofs.Common.{◌≡◌, ℕ, List, Some, suc, ◌+◌, ◌≤◌, [], ◌∷◌, ap, ◌∙◌, arith, inl, inr, if◌then◌else◌, zero, length, sym, ◌<◌, refl, subst, Bool, Option, None, ◌≢◌, ◌-◌, ◌++◌}
use Rattle.std.specs.List.{slice_get, AllByRecursion}
use Rattle.std.proofs.lemmas.Bool.{le-leb, lt-leb}
use Rattle.std.proofs.lemmas.Option.{same_Some}
use Rattle.reg_model.specs.declared.span.Member.{Member}
use Rattle.tree_shape.specs.declared.pair.Pair.{Pair}
use Rattle.tree_shape.specs.NodeData.{slot_for, Cut, NodeData, pairs_of}
use Rattle.tree_laws.specs.Trees.{Branch, branches_from, branches}
use Rattle.tree_laws.proofs.Leads.{branch_inside, contains_in}
use Rattle.tree_laws.proofs.Times.{In}
use Rattle.tree_laws.specs.Steps.{last_child}
use Rattle.word_rule.specs.declared.log.Holding.{Holding}
use Rattle.word_rule.specs.declared.log.Terms.{Terms}
use Rattle.word_rule.specs.declared.log.Holdings.{Holdings}
use Rattle.word_rule.specs.Spelling.{SpellsNode}
use Rattle.word_rule.specs.declared.log.Log.{Log}
use Rattle.word_rule.specs.Held.{held_of}
use Rattle.word_rule.specs.NodeTells.{KnowsTree}
use Rattle.word_rule.specs.declared.log.LoadEvent.{LoadEvent}
use Rattle.word_rule.specs.TreeRefusals.{HadNoRoom}
use Rattle.word_rule.specs.CallerData.{CallerData}
use Rattle.word_rule.specs.declared.log.Receipts.{Receipts}
use Rattle.node_store.specs.Holding.{SpellsHeld}
use Rattle.tree_descent.specs.Paths.{IsLiveLock, IsSettledLock, AreHigher, AreApart, StepsOnNodes}
use Rattle.tree_descent.specs.declared.descent.Held.{Held}
use Rattle.tree_descent.specs.Stands.{StandsAt, HoldsPair}
use Rattle.tree_descent.specs.Releases.{HaveSettled, LetsGo, Spends}
use Rattle.tree_descent.proofs.Outlining.{spells_held}
use Rattle.tree_descent.proofs.Storing.{found_at}
use Rattle.tree_descent.proofs.Spending.{spends_same, steps_after}
use Rattle.leaf_change.proofs.Releasing.{IsLowest}
use Rattle.node_split.specs.declared.split.Room.{Room}
use Rattle.node_split.proofs.NoRoom.{more_loads}
use Rattle.fence_move.proofs.HeldTrees.{child, OnTree, apart_with, child_frame, inner, on_tree}
use Rattle.fence_move.proofs.NextLeaves.{higher_spelled, higher_marked}
use Rattle.btree_change.specs.declared.stand.Beyond.{Beyond}
use Rattle.btree_change.specs.Kept.{AreKept, HoldsPath, IsKeptLock, LeavesBelow}
use Rattle.btree_change.specs.Stands.{Reaches, kept_above, IsPairFor, IsReach, kept_node, kept_too, HasWayOn, StandsOnWay}
use Rattle.btree_change.specs.declared.stand.Stand.{Stand}
use Rattle.btree_change.proofs.KeptPaths.{kept_gone, none_kept}
use Rattle.btree_change.proofs.Spending.{own_same}
use Rattle.btree_change.specs.declared.stand.SpanEnd.TheVariants as reach
use Rattle.node_split.specs.declared.split.Room.TheVariants as room

-- the branch for an address is that of the slot for it
pub record IsSlotOf (pc : ℕ) (pairs : List Pair) (b : Branch) : Type 0 where
  pub pair : Pair
  pub at : slice_get pairs (slot_for pc pairs) ≡ Some pair
  pub child : pair.child ≡ b.child
  pub high : pair.separator ≡ b.frame.high

pub slot_is : (level low high pc : ℕ) (pairs : List Pair) (b : Branch) → Cut low high pairs → In b (branches_from level low pairs) → b.frame.low ≤ pc → pc ≤ b.frame.high → IsSlotOf pc pairs b
slot_is level low high pc [] b cut there least most = absurd there
slot_is level low high pc (p ∷ pairs) b cut (inl e) least most =
    let sep : p.separator ≡ b.frame.high = ap (λ (z : Branch). z.frame.high) e in
    record {
      pair = p;
      at = ap (λ z. slice_get (p ∷ pairs) (if z then 0 else (slot_for pc pairs + 1))) (le-leb pc p.separator (omega (arith, sep, most)));
      child = ap (λ (z : Branch). z.child) e;
      high = sep;
    }
slot_is level low high pc (p ∷ pairs) b cut (inr later) least most =
    let rest = slot_is level (p.separator + 1) high pc pairs b cut.1 later least most in
    let inside = branch_inside level (p.separator + 1) high pairs b cut.1 later in
    let next : slot_for pc pairs + 1 ≡ suc (slot_for pc pairs) = omega arith in record {
      pair = rest.pair;
      at = ap (λ z. slice_get (p ∷ pairs) (if z then 0 else (slot_for pc pairs + 1))) (lt-leb pc p.separator (let l = inside.0 in omega (arith, l, least))) ∙ (ap (λ k. slice_get (p ∷ pairs) k) next ∙ rest.at);
      child = rest.child;
      high = rest.high;
    }

-- the last pair has the last child, and ends at the high fence
pub last_pair : (low high slot start : ℕ) (pairs : List Pair) (p : Pair) → Cut low high pairs → slice_get pairs slot ≡ Some p → length pairs ≡ slot + 1 → (last_child start pairs ≡ p.child) × (p.separator ≡ high)
last_pair low high slot start [] p cut at last = absurd (omega (arith, last))
last_pair low high zero start (q ∷ []) p cut at last =
    let e = same_Some _ _ at in (ap (λ (z : Pair). z.child) e, (let c = cut.1 in ap (λ (z : Pair). z.separator) (sym e) ∙ omega (arith, c)))
last_pair low high zero start (q ∷ r ∷ pairs) p cut at last = absurd (omega (arith, last))
last_pair low high (suc slot) start (q ∷ pairs) p cut at last = last_pair (q.separator + 1) high slot q.child pairs p cut.1 at (omega (arith, last))

next_pair : (slot : ℕ) (pairs : List Pair) → slot < length pairs → (q : Pair) × (slice_get pairs slot ≡ Some q)
next_pair slot [] inside = absurd (omega (arith, inside))
next_pair zero (q ∷ pairs) inside = (q, refl)
next_pair (suc slot) (q ∷ pairs) inside = next_pair slot pairs (omega (arith, inside))

pub live_lock : (t : Terms) (n : ℕ) (s : NodeData) (changed : Bool) (h : Holding) → IsSettledLock t n s changed h → IsLiveLock t h
live_lock t n s changed h l =
    subst (λ k. IsSettledLock t k h.settled h.stored h) (sym l.node) (subst (λ z. IsSettledLock t n z h.stored h) (sym l.settled) (subst (λ b. IsSettledLock t n s b h) (sym l.stored) l))

-- a node at which an insertion stands is the lowest that is held
abbrev pub lowest_of : (t : Terms) (at : Held) (holdings : Holdings) → StandsAt t at holdings → IsLowest at.node at.changed holdings
lowest_of t at holdings s = record {
  lock = s.lock;
  above = s.above;
  held = s.held;
  is_node = s.here.node;
  stored = λ e. s.here.stored ∙ e;
  settled = (subst (SpellsNode s.lock.words) (sym s.here.settled) s.here.spells, higher_spelled t at.content.level s.above s.higher);
  apart = s.apart;
}

-- what is kept above is held there
pub reach_kept : (t : Terms) (last : ℕ) (s : NodeData) (o : Option Beyond) (lower : Holding) (above : List Holding) → Reaches t last s o lower above → AreKept t (kept_above o) above
reach_kept t last s None lower above r = subst (AreKept t []) (sym r.1) tt
reach_kept t last s (Some b) lower above r = r.1.kept

module _ (t : Terms) (pc last : ℕ) (parent below : Held) (above : List Holding) (holdings : Holdings) (pair : HoldsPair t pc parent below above holdings) (tree : KnowsTree holdings) where
  upper_live : IsLiveLock t pair.upper
  upper_live = live_lock t parent.node parent.content parent.changed pair.upper pair.parent_is

  level_is : pair.upper.settled.level ≡ parent.content.level
  level_is = ap (λ (s : NodeData). s.level) pair.parent_is.settled

  pub on : AllByRecursion (OnTree tree.contents tree.live) (pair.lower ∷ pair.upper ∷ above)
  on = on_tree holdings tree (pair.lower ∷ pair.upper ∷ above) pair.held (pair.child_is.marked, (pair.parent_is.marked, higher_marked t parent.content.level above pair.higher))

  cut : Cut pair.upper.settled.low pair.upper.settled.high (pairs_of pair.upper.settled)
  cut = (inner tree.contents tree.live tree.lawful pair.upper on.1.0 (let e = level_is in let i = pair.inner in omega (arith, e, i))).1

  abbrev b : Branch
  b = pair.leads.0

  in_upper : In b (branches (pair.upper.settled.level - 1) pair.upper.settled)
  in_upper = subst (λ (s : NodeData). In b (branches (s.level - 1) s)) (sym pair.parent_is.settled) (contains_in (branches (parent.content.level - 1) parent.content) b pair.leads.1.0)

  frame : (pair.lower.settled.level ≡ b.frame.level) × (pair.lower.settled.low ≡ b.frame.low) × (pair.lower.settled.high ≡ b.frame.high)
  frame = child_frame tree.contents tree.live tree.lawful pair.lower b (child tree.contents tree.live tree.lawful pair.upper b on.1.0 in_upper) on.0 (pair.child_is.node ∙ sym pair.leads.1.1)

  branch_level : (level low : ℕ) (pairs : List Pair) (x : Branch) → In x (branches_from level low pairs) → x.frame.level ≡ level
  branch_level level low [] x there = absurd there
  branch_level level low (p ∷ pairs) x (inl e) = ap (λ (z : Branch). z.frame.level) (sym e)
  branch_level level low (p ∷ pairs) x (inr later) = branch_level level (p.separator + 1) pairs x later

  one_less : pair.upper.settled.level ≡ pair.lower.settled.level + 1
  one_less =
      let a = frame.0 in let c = branch_level (pair.upper.settled.level - 1) pair.upper.settled.low (pairs_of pair.upper.settled) b in_upper in
      let e = level_is in let i = pair.inner in omega (arith, a, c, e, i)

  pub below_less : below.content.level < parent.content.level
  below_less = let a = one_less in let e = level_is in let z = ap (λ (s : NodeData). s.level) pair.child_is.settled in omega (arith, a, e, z)

  slot : IsSlotOf pc (pairs_of pair.upper.settled) b
  slot = slot_is (pair.upper.settled.level - 1) pair.upper.settled.low pair.upper.settled.high pc (pairs_of pair.upper.settled) b cut in_upper pair.leads.1.2 pair.leads.1.3

  pub higher : AreHigher t below.content.level (pair.upper ∷ above)
  higher = (upper_live, (let a = below_less in let e = level_is in omega (arith, a, e)), subst (λ l. AreHigher t l above) (sym level_is) pair.higher)

  child_high : pair.lower.settled.high ≡ slot.pair.separator
  child_high = frame.2 ∙ sym slot.high

  abbrev pub stands_below : StandsAt t below holdings
  stands_below = record {
    within = pair.child_within;
    lock = pair.lower;
    above = pair.upper ∷ above;
    held = pair.held;
    here = pair.child_is;
    higher = higher;
    apart = apart_with tree.contents tree.live tree.lawful t below.content.level pair.lower (pair.upper ∷ above) on.0 on.1 (let z = ap (λ (s : NodeData). s.level) pair.child_is.settled in omega (arith, z)) higher;
    out = pair.out;
  }

  -- the words of both are theirs
  pub upper_spelled : (v : Log) → v.holdings ≡ holdings → SpellsHeld parent.node parent.content v
  upper_spelled v same =
      let far : pair.lower.node ≢ parent.node = λ e. stands_below.apart.0.0 (pair.parent_is.node ∙ sym e) in
      spells_held parent.node parent.content pair.upper v (ap (λ (hs : Holdings). held_of parent.node hs.held) same ∙ (ap (held_of parent.node) pair.held ∙ found_at parent.node (pair.lower ∷ []) pair.upper above pair.parent_is.node (far, tt))) pair.parent_is.spells

  pub lower_spelled : (v : Log) → v.holdings ≡ holdings → SpellsHeld below.node below.content v
  lower_spelled v same =
      spells_held below.node below.content pair.lower v (ap (λ (hs : Holdings). held_of below.node hs.held) same ∙ (ap (held_of below.node) pair.held ∙ found_at below.node [] pair.lower (pair.upper ∷ above) pair.child_is.node tt)) pair.child_is.spells

  -- the child ends at its pair's separator
  pub child_ends : (p : Pair) → slice_get (pairs_of parent.content) (slot_for pc (pairs_of parent.content)) ≡ Some p → p.separator ≡ below.content.high
  child_ends p at =
      let at_upper : slice_get (pairs_of pair.upper.settled) (slot_for pc (pairs_of pair.upper.settled)) ≡ Some p = ap (λ (s : NodeData). slice_get (pairs_of s) (slot_for pc (pairs_of s))) pair.parent_is.settled ∙ at in
      let same : slot.pair ≡ p = same_Some _ _ (sym slot.at ∙ at_upper) in
      ap (λ (z : Pair). z.separator) (sym same) ∙ (sym child_high ∙ ap (λ (s : NodeData). s.high) pair.child_is.settled)

  -- what of the parent's slot an insertion saw
  seen_pair : (p : Pair) → IsPairFor parent.content pc p → (slice_get (pairs_of pair.upper.settled) (slot_for pc (pairs_of pair.upper.settled)) ≡ Some p) × (slot.pair ≡ p)
  seen_pair p at =
      let at_upper : slice_get (pairs_of pair.upper.settled) (slot_for pc (pairs_of pair.upper.settled)) ≡ Some p = ap (λ (s : NodeData). slice_get (pairs_of s) (slot_for pc (pairs_of s))) pair.parent_is.settled ∙ at in
      (at_upper, same_Some _ _ (sym slot.at ∙ at_upper))

  -- the child doesn't end beyond its parent
  child_inside : below.content.high ≤ parent.content.high
  child_inside =
      let inside = branch_inside (pair.upper.settled.level - 1) pair.upper.settled.low pair.upper.settled.high (pairs_of pair.upper.settled) b cut in_upper in
      let most = inside.2 in let h = frame.2 in let c = ap (λ (s : NodeData). s.high) pair.child_is.settled in let u = ap (λ (s : NodeData). s.high) pair.parent_is.settled in omega (arith, most, h, c, u)

  -- a span that ends in the child: nothing is kept above the parent
  pub ends_inside : IsReach parent.content pc last reach.Child → last ≤ below.content.high
  ends_inside (p, (at, less)) = let e = child_ends p at in omega (arith, e, less)

  pub none_above : (so_far : Option Beyond) → IsReach parent.content pc last reach.Child → Reaches t last parent.content so_far pair.upper above → (so_far ≡ None) × (above ≡ [])
  none_above None is before = (refl, before.1)
  none_above (Some x) is before = absurd (let over = before.0 in let e = ends_inside is in let i = child_inside in omega (arith, over, e, i))

  upper_kept : IsKeptLock t (kept_node parent) pair.upper
  upper_kept = record { node = pair.parent_is.node; within = pair.parent_within; stored = pair.parent_is.stored }

  -- in another child of the parent, which is the node above both leaves
  pub reaches_parent : (at : ℕ) → IsReach parent.content pc last (reach.Parent at) → Reaches t last below.content (Some (record { node = parent.node; slot = at; kept = kept_node parent ∷ [] })) pair.lower (pair.upper ∷ [])
  reaches_parent at (p, (is, past, same, inside)) =
      let e = child_ends p is in
      let seen = seen_pair p is in
      let next = next_pair (slot_for pc (pairs_of pair.upper.settled) + 1) (pairs_of pair.upper.settled) (subst (λ (s : NodeData). slot_for pc (pairs_of s) + 1 < length (pairs_of s)) (sym pair.parent_is.settled) (subst (λ k. k + 1 < length (pairs_of parent.content)) same inside)) in
      let same_slot : slot_for pc (pairs_of pair.upper.settled) ≡ at = ap (λ (s : NodeData). slot_for pc (pairs_of s)) pair.parent_is.settled ∙ sym same in (
        omega (arith, past, e),
        record {
          spine = [];
          top = pair.upper;
          split = refl;
          node = pair.parent_is.node;
          within = pair.parent_within;
          climb = record {
            pair = p;
            next = next.0;
            at = ap (λ k. slice_get (pairs_of pair.upper.settled) k) (sym same_slot) ∙ seen.0;
            after = ap (λ k. slice_get (pairs_of pair.upper.settled) (k + 1)) (sym same_slot) ∙ next.1;
            child = ap (λ (z : Pair). z.child) (sym seen.1) ∙ (slot.child ∙ (pair.leads.1.1 ∙ sym pair.child_is.node));
            level = one_less;
          };
          kept = (upper_kept, tt);
        },
      )

  -- beyond the parent, which lies on the left spine too
  pub reaches_above : (so_far : Option Beyond) → IsReach parent.content pc last reach.Above → Reaches t last parent.content so_far pair.upper above → Reaches t last below.content (kept_too parent so_far) pair.lower (pair.upper ∷ above)
  reaches_above so_far (p, (is, past, ends)) before = by so_far before
    where
      last_is : (last_child 0 (pairs_of pair.upper.settled) ≡ p.child) × (p.separator ≡ pair.upper.settled.high)
      last_is = last_pair pair.upper.settled.low pair.upper.settled.high (slot_for pc (pairs_of pair.upper.settled)) 0 (pairs_of pair.upper.settled) p cut (seen_pair p is).0 (subst (λ (s : NodeData). length (pairs_of s) ≡ slot_for pc (pairs_of s) + 1) (sym pair.parent_is.settled) ends)

      by : (o : Option Beyond) → Reaches t last parent.content o pair.upper above → Reaches t last below.content (kept_too parent o) pair.lower (pair.upper ∷ above)
      by None told =
          let most = told.0 in let c = last_is.1 in let d = ap (λ (s : NodeData). s.high) pair.parent_is.settled in absurd (omega (arith, most, past, c, d))
      by (Some x) told = (
        (let e = child_ends p is in omega (arith, past, e)),
        record {
          spine = pair.upper ∷ told.1.spine;
          top = told.1.top;
          split = ap (λ hs. pair.upper ∷ hs) told.1.split;
          node = told.1.node;
          within = told.1.within;
          climb = (
            (pair.child_is.node ∙ (sym pair.leads.1.1 ∙ (sym slot.child ∙ (ap (λ (z : Pair). z.child) (seen_pair p is).1 ∙ sym last_is.0))), one_less),
            told.1.climb,
          );
          kept = (upper_kept, told.1.kept);
        },
      )

  -- the parent may be let go of, and what is kept above it
  pub parent_path : (so_far : Option Beyond) → Reaches t last parent.content so_far pair.upper above → HoldsPath t (kept_node parent ∷ kept_above so_far) (pair.lower ∷ []) holdings
  parent_path so_far before = record {
    locks = pair.upper ∷ above;
    held = pair.held;
    kept = (upper_kept, reach_kept t last parent.content so_far pair.upper above before);
    settled = subst HaveSettled (sym pair.held) (lowest_of t below holdings stands_below).settled;
    apart = subst AreApart (sym pair.held) stands_below.apart;
  }

  pub above_path : (so_far : Option Beyond) → Reaches t last parent.content so_far pair.upper above → HoldsPath t (kept_above so_far) (pair.lower ∷ pair.upper ∷ []) holdings
  above_path so_far before = record {
    locks = above;
    held = pair.held;
    kept = reach_kept t last parent.content so_far pair.upper above before;
    settled = subst HaveSettled (sym pair.held) (lowest_of t below holdings stands_below).settled;
    apart = subst AreApart (sym pair.held) stands_below.apart;
  }

  -- where the child stands with the parent alone above it, or with nothing
  abbrev pub child_alone : (now : Holdings) → now.held ≡ pair.lower ∷ [] → now.out ≡ [] → StandsAt t below now
  child_alone now held out = record { within = pair.child_within; lock = pair.lower; above = []; held = held; here = pair.child_is; higher = tt; apart = (tt, tt); out = out }

  abbrev pub child_under : (now : Holdings) → now.held ≡ pair.lower ∷ pair.upper ∷ [] → now.out ≡ [] → StandsAt t below now
  child_under now held out = record { within = pair.child_within; lock = pair.lower; above = pair.upper ∷ []; held = held; here = pair.child_is; higher = (higher.0, higher.1, tt); apart = ((stands_below.apart.0.0, tt), (tt, tt)); out = out }

-- a load keeps what is known of the way on
pub way_kept : (room : Room) (pc : ℕ) (s : NodeData) (v w : Log) → w.receipts.own ≡ v.receipts.own → (more : List LoadEvent) → w.trace.loads ≡ v.trace.loads ++ more → HasWayOn room pc s v → HasWayOn room pc s w
way_kept room.Splitting pc s v w own more is h = h
way_kept room.NoneFree pc s v w own more is h = subst (λ xs. HadNoRoom pc (length xs) w.trace.loads) (sym own) (subst (HadNoRoom pc (length v.receipts.own)) (sym is) (more_loads pc (length v.receipts.own) v.trace.loads more h))

-- where an insertion stands, all that is held may be let go of
pub stand_path : (t : Terms) (m : Member) (stand : Stand) (v : Log) → StandsOnWay t m stand v → HoldsPath t (kept_node stand.at ∷ kept_above stand.beyond) [] v.holdings
stand_path t m stand v s = record {
  locks = s.at.lock ∷ s.at.above;
  held = s.at.held;
  kept = (record { node = s.at.here.node; within = s.at.within; stored = s.at.here.stored }, reach_kept t m.span.last stand.at.content stand.beyond s.at.lock s.at.above s.reach);
  settled = subst HaveSettled (sym s.at.held) (lowest_of t stand.at v.holdings s.at).settled;
  apart = subst AreApart (sym s.at.held) s.at.apart;
}

-- and where it stands after a step, by what was let go of
module _ (t : Terms) (m : Member) (parent below : Held) (way : Room) (above : List Holding) (k : CallerData) (pair : HoldsPair t m.span.first parent below above k.log.holdings) (tree : KnowsTree k.log.holdings) (on : HasWayOn way m.span.first below.content k.log) (so_far : Option Beyond) (before : Reaches t m.span.last parent.content so_far pair.upper above) (low : parent.content.level + length (kept_above so_far) ≤ 12) (loader : k.log.loader ≡ None) where
  less : below.content.level < parent.content.level
  less = below_less t m.span.first m.span.last parent below above k.log.holdings pair tree

  still_on : (n : ℕ) (l : CallerData) → Spends n k l → HasWayOn way m.span.first below.content l.log
  still_on n l spent = way_kept way m.span.first below.content k.log l.log (own_same n k l spent) spent.loads.0 spent.loads.1 on

  -- what was held above the two is let go of
  pub left_with_parent : (l n : CallerData) → StepsOnNodes k l × (l.log.holdings ≡ k.log.holdings) → ((base : List Holding) → HoldsPath t (kept_above so_far) base l.log.holdings → LeavesBelow (length (kept_above so_far)) base l n) → LeavesBelow (length (kept_above so_far)) (pair.lower ∷ pair.upper ∷ []) k n
  left_with_parent l n (steps, same) goes =
      let path = above_path t m.span.first m.span.last parent below above k.log.holdings pair tree so_far before in
      let left = goes (pair.lower ∷ pair.upper ∷ []) (subst (HoldsPath t (kept_above so_far) (pair.lower ∷ pair.upper ∷ [])) (sym same) path) in record {
        steps = steps_after 0 (length (kept_above so_far)) (length (kept_above so_far)) k l n (omega arith) (spends_same k l steps) left.steps;
        held = left.held;
        out = left.out ∙ ap (λ (z : Holdings). z.out) same;
      }

  -- or the parent, where nothing is held above it
  pub left_alone : IsReach parent.content m.span.first m.span.last reach.Child → (l n : CallerData) → StepsOnNodes k l × (l.log.holdings ≡ k.log.holdings) → LetsGo parent.node l n → LeavesBelow 1 (pair.lower ∷ []) k n
  left_alone is l n (steps, same) goes =
      let none = none_above t m.span.first m.span.last parent below above k.log.holdings pair tree so_far is before in
      let path = parent_path t m.span.first m.span.last parent below above k.log.holdings pair tree so_far before in
      let held = subst (HoldsPath t (kept_node parent ∷ kept_above so_far) (pair.lower ∷ [])) (sym same) path in record {
        steps = steps_after 0 1 1 k l n (omega arith) (spends_same k l steps) goes.steps;
        held = none_kept t (kept_above so_far) (pair.lower ∷ []) n.log.holdings (ap kept_above none.0) (kept_gone t (kept_node parent) (kept_above so_far) (pair.lower ∷ []) l.log.holdings held l n refl goes);
        out = goes.out ∙ ap (λ (z : Holdings). z.out) same;
      }

  pub stands_child : IsReach parent.content m.span.first m.span.last reach.Child → (n : ℕ) (l : CallerData) → Spends n k l → l.log.holdings.held ≡ pair.lower ∷ [] → l.log.holdings.out ≡ [] → StandsOnWay t m (record { at = below; beyond = None; room = way }) l.log
  stands_child is n l spent held out = record {
    at = child_alone t m.span.first m.span.last parent below above k.log.holdings pair tree l.log.holdings held out;
    here = pair.here;
    reach = (ends_inside t m.span.first m.span.last parent below above k.log.holdings pair tree is, refl);
    way = still_on n l spent;
    height = omega (arith, less, low);
    loader = spent.calls.caller.loader ∙ loader;
  }

  pub stands_parent : (at : ℕ) → IsReach parent.content m.span.first m.span.last (reach.Parent at) → (n : ℕ) (l : CallerData) → Spends n k l → l.log.holdings.held ≡ pair.lower ∷ pair.upper ∷ [] → l.log.holdings.out ≡ [] → StandsOnWay t m (record { at = below; beyond = Some (record { node = parent.node; slot = at; kept = kept_node parent ∷ [] }); room = way }) l.log
  stands_parent at is n l spent held out = record {
    at = child_under t m.span.first m.span.last parent below above k.log.holdings pair tree l.log.holdings held out;
    here = pair.here;
    reach = reaches_parent t m.span.first m.span.last parent below above k.log.holdings pair tree at is;
    way = still_on n l spent;
    height = omega (arith, less, low);
    loader = spent.calls.caller.loader ∙ loader;
  }

  pub kept_length : length (kept_above (kept_too parent so_far)) ≤ length (kept_above so_far) + 1
  kept_length = go so_far
    where
      go : (o : Option Beyond) → length (kept_above (kept_too parent o)) ≤ length (kept_above o) + 1
      go None = omega arith
      go (Some b) = omega arith

  pub stands_above : IsReach parent.content m.span.first m.span.last reach.Above → (l : CallerData) → StepsOnNodes k l → l.log.holdings ≡ k.log.holdings → StandsOnWay t m (record { at = below; beyond = kept_too parent so_far; room = way }) l.log
  stands_above is l steps same =
      let stands : StandsAt t below k.log.holdings = stands_below t m.span.first m.span.last parent below above k.log.holdings pair tree in
      let reach = reaches_above t m.span.first m.span.last parent below above k.log.holdings pair tree so_far is before in
      let x = subst (λ hs. (a : StandsAt t below hs) × Reaches t m.span.last below.content (kept_too parent so_far) a.lock a.above) (sym same) (stands, reach) in record {
        at = x.0;
        here = pair.here;
        reach = x.1;
        way = way_kept way m.span.first below.content k.log l.log (ap (λ (r : Receipts). r.own) steps.calls.receipts) steps.loads.0 steps.loads.1 on;
        height = (let more = kept_length in omega (arith, less, low, more));
        loader = steps.calls.caller.loader ∙ loader;
      }

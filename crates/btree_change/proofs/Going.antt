-- An insertion goes down from where it stands: what it makes of its caller.
use Rattle.std.proofs.Common.{ℕ, ap, ◌≡◌, ◌+◌, List, [], ◌∷◌, sym, ◌∙◌, arith, Option, Some, None, ◌≢◌, ◌-◌, ◌<◌, ◌≤◌, drop, length, subst}
use Rattle.std.specs.List.{AllByRecursion}
use Rattle.reg_model.specs.declared.span.Member.{Member}
use Rattle.tree_shape.specs.NodeData.{NodeData, frame_of, IsInFences}
use Rattle.tree_shape.specs.declared.node.NodeBounds.{NodeBounds}
use Rattle.word_rule.specs.CallerData.{CallerData}
use Rattle.word_rule.specs.declared.log.Holding.{Holding}
use Rattle.word_rule.specs.declared.log.Terms.{Terms}
use Rattle.word_rule.specs.Spelling.{SpellsNode}
use Rattle.version_locks.specs.declared.locking.Busy.{Busy}
use Rattle.tree_descent.specs.Loads.{KeepsLoads}
use Rattle.tree_descent.specs.Paths.{StepsOnNodes, AreApart}
use Rattle.tree_descent.specs.declared.descent.Held.{Held}
use Rattle.tree_descent.specs.Releases.{HaveSettled, Spends}
use Rattle.tree_descent.specs.Stands.{HoldsPair}
use Rattle.tree_descent.proofs.Loading.{nothing_left}
use Rattle.tree_descent.proofs.Spending.{spends_all, spends_same, steps_after}
use Rattle.node_split.specs.declared.split.Room.{Room}
use Rattle.node_split.specs.declared.split.Coupled.{Coupled}
use Rattle.fence_move.specs.Spines.{Climbs}
use Rattle.fence_move.proofs.NextLeaves.{higher_spelled}
use Rattle.btree_change.specs.Stands.{HasWayOn, LiesBeyond, Reaches, GoesTo, HasCause, HasSplit, HoldsStep, IfNoneFree, StandsOnWay, kept_above, kept_node, releases_from}
use Rattle.btree_change.proofs.Standing.{way_kept, reach_kept}
use Rattle.btree_change.specs.declared.stand.Beyond.{Beyond}
use Rattle.btree_change.specs.declared.stand.Stand.{Stand}
use Rattle.btree_change.specs.Kept.{HoldsPath, LeavesBelow}
use Rattle.btree_change.specs.Roots.{GivesUpWhole}
use Rattle.btree_change.proofs.NoRoom.{cause_after, cause_still, same_cause, cause_below}
use Rattle.btree_change.proofs.Spending.{own_same}
use Rattle.node_split.specs.declared.split.Room.TheVariants as room

-- the way on, after the child was locked
pub way_lowered : (way : Room) (pc : ℕ) (s : NodeData) (k l : CallerData) → StepsOnNodes k l → KeepsLoads k l → HasWayOn way pc s k.log → HasWayOn way pc s l.log
way_lowered way pc s k l steps (more, is) on = way_kept way pc s k.log l.log (ap (λ r. r.own) steps.calls.receipts) more is on

-- the node above both leaves depends on a lock's node and level alone
pub beyond_same : (t : Terms) (b : Beyond) (a c : Holding) (above : List Holding) → c.node ≡ a.node → c.settled.level ≡ a.settled.level → LiesBeyond t b a above → LiesBeyond t b c above
beyond_same t b a c above node level is = record {
  spine = is.spine;
  top = is.top;
  split = is.split;
  node = is.node;
  within = is.within;
  climb = go is.spine is.climb;
  kept = is.kept;
}
  where
    go : (spine : List Holding) → Climbs b.slot a spine is.top → Climbs b.slot c spine is.top
    go [] climb = record { pair = climb.pair; next = climb.next; at = climb.at; after = climb.after; child = climb.child ∙ sym node; level = climb.level ∙ ap (λ l. l + 1) (sym level) }
    go (h ∷ spine) climb = ((node ∙ climb.0.0, climb.0.1 ∙ ap (λ l. l + 1) (sym level)), climb.1)

pub reaches_same : (t : Terms) (last : ℕ) (s u : NodeData) (o : Option Beyond) (a c : Holding) (above : List Holding) → c.node ≡ a.node → c.settled.level ≡ a.settled.level → frame_of u ≡ frame_of s → Reaches t last s o a above → Reaches t last u o c above
reaches_same t last s u None a c above node level frame r = ((let e = ap (λ (f : NodeBounds). f.high) frame in let l = r.0 in omega (arith, e, l)), r.1)
reaches_same t last s u (Some b) a c above node level frame r = ((let e = ap (λ (f : NodeBounds). f.high) frame in let l = r.0 in omega (arith, e, l)), beyond_same t b a c above node level r.1)

-- what has the same frame has the same addresses
pub split_here : (pc : ℕ) (s after : NodeData) → frame_of after ≡ frame_of s → IsInFences pc s → IsInFences pc after
split_here pc s after frame (low, high) = let l = ap (λ (f : NodeBounds). f.low) frame in let h = ap (λ (f : NodeBounds). f.high) frame in (omega (arith, l, low), omega (arith, h, high))

module _ (t : Terms) (m : Member) (stand : Stand) (k : CallerData) (stands : StandsOnWay t m stand k.log) where
  abbrev above : List Holding
  above = drop 1 k.log.holdings.held

  above_is : above ≡ stands.at.above
  above_is = ap (drop 1) stands.at.held

  -- the child was locked
  module _ (child : Held) (k1 : CallerData) (pair : HoldsPair t m.span.first stand.at child (drop 1 k.log.holdings.held) k1.log.holdings) (steps : StepsOnNodes k k1) (loads : KeepsLoads k k1) where
    abbrev step : Coupled
    step = record { parent = stand.at; child = child; room = stand.room }

    rest_is : drop 2 k1.log.holdings.held ≡ drop 1 k.log.holdings.held
    rest_is = ap (drop 2) pair.held

    pub step_held : HoldsStep t m.span.first step (drop 2 k1.log.holdings.held) k1.log
    step_held = record {
      pair = subst (λ hs. HoldsPair t m.span.first stand.at child hs k1.log.holdings) (sym rest_is) pair;
      way = way_lowered stand.room m.span.first stand.at.content k k1 steps loads stands.way;
    }

    -- and split where it had to be
    pub split_reaches : (after : Coupled) (k2 : CallerData) → (s : HasSplit t m.span.first step after k1 k2) → (p : HoldsPair t m.span.first after.parent after.child (drop 2 k2.log.holdings.held) k2.log.holdings) × Reaches t m.span.last after.parent.content stand.beyond p.upper (drop 2 k2.log.holdings.held)
    split_reaches after k2 s =
        let rest : drop 2 k2.log.holdings.held ≡ drop 2 k1.log.holdings.held = ap (drop 2) s.pair.held in
        let level : s.pair.upper.settled.level ≡ stands.at.lock.settled.level = ap (λ (z : NodeData). z.level) s.pair.parent_is.settled ∙ (ap (λ (f : NodeBounds). f.level) s.frame ∙ ap (λ (z : NodeData). z.level) (sym stands.at.here.settled)) in
        let reach = reaches_same t m.span.last stand.at.content after.parent.content stand.beyond stands.at.lock s.pair.upper stands.at.above (s.pair.parent_is.node ∙ (s.node ∙ sym stands.at.here.node)) level s.frame stands.reach in
        subst (λ hs. (p : HoldsPair t m.span.first after.parent after.child hs k2.log.holdings) × Reaches t m.span.last after.parent.content stand.beyond p.upper hs) (sym rest)
        (s.pair, subst (λ hs. Reaches t m.span.last after.parent.content stand.beyond s.pair.upper hs) (sym (rest_is ∙ above_is)) reach)

    -- the child was let go of again, and all else may be
    pub split_path : (k2 : CallerData) → k2.log.holdings.held ≡ drop 1 k1.log.holdings.held → HoldsPath t (kept_node stand.at ∷ kept_above stand.beyond) [] k2.log.holdings
    split_path k2 held =
        let is : k2.log.holdings.held ≡ pair.upper ∷ stands.at.above = held ∙ (ap (drop 1) pair.held ∙ ap (λ hs. pair.upper ∷ hs) above_is) in record {
          locks = pair.upper ∷ stands.at.above;
          held = is;
          kept = (record { node = pair.parent_is.node; within = pair.parent_within; stored = pair.parent_is.stored }, reach_kept t m.span.last stand.at.content stand.beyond stands.at.lock stands.at.above stands.reach);
          settled = subst HaveSettled (sym is) (subst (SpellsNode pair.upper.words) (sym pair.parent_is.settled) pair.parent_is.spells, higher_spelled t stand.at.content.level stands.at.above stands.at.higher);
          apart = subst AreApart (sym is) (subst (λ n. AllByRecursion (λ (a : Holding). a.node ≢ n) stands.at.above) (stands.at.here.node ∙ sym pair.parent_is.node) stands.at.apart.0, stands.at.apart.1);
        }

    -- it stands below now
    pub goes_below : (after : Coupled) (k2 : CallerData) → (s : HasSplit t m.span.first step after k1 k2) → (found : Stand) (k3 : CallerData) → StandsOnWay t m found k3.log → found.at ≡ after.child → found.room ≡ after.room → length (kept_above found.beyond) ≤ length (kept_above stand.beyond) + 1 → Spends (length (kept_above stand.beyond) + 1 - length (kept_above found.beyond)) k2 k3 → (found.at.content.level < stand.at.content.level) × GoesTo t m stand found k k3
    goes_below after k2 s found k3 on at way few spent =
        let less : found.at.content.level < stand.at.content.level = subst (λ (h : Held). h.content.level < stand.at.content.level) (sym at) s.less in (
          less,
          record {
            stands = on;
            cause = subst (λ r. IfNoneFree r (HasCause stand.room m.span.first k k3)) (sym way) (lost after.room s.cause);
            lower = omega (arith, less);
            fewer = omega (arith, less, few);
            steps = steps_after 0 (length (kept_above stand.beyond) + 1 - length (kept_above found.beyond) + 1) (releases_from stand - releases_from found) k k1 k3 (omega (arith, less, few)) (spends_same k k1 steps)
                (steps_after 1 (length (kept_above stand.beyond) + 1 - length (kept_above found.beyond)) (length (kept_above stand.beyond) + 1 - length (kept_above found.beyond) + 1) k1 k2 k3 (omega arith) s.steps spent);
          },
        )
      where
        lost : (r : Room) → IfNoneFree r (HasCause stand.room m.span.first k1 k2) → IfNoneFree r (HasCause stand.room m.span.first k k3)
        lost room.Splitting c = tt
        lost room.NoneFree c = cause_after stand.room m.span.first k k1 k3 (ap (λ r. r.own) steps.calls.receipts) steps.loads (cause_still stand.room m.span.first k1 k2 k3 c spent.loads)

  -- a lock was taken, and all was let go of
  pub gives_up_all : (why : Busy) (a : ℕ) (l n : CallerData) → a ≤ 1 → Spends a k l → l.log.holdings.out ≡ [] → LeavesBelow (length (kept_above stand.beyond) + 1) [] l n → GivesUpWhole (releases_from stand) why k n
  gives_up_all why a l n few spent out left = record {
    steps = steps_after a (length (kept_above stand.beyond) + 1) (releases_from stand) k l n (omega (arith, few)) spent left.steps;
    nothing = nothing_left why n.log.holdings (left.held, left.out ∙ out);
  }

  pub goes_nowhere : GoesTo t m stand stand k k
  goes_nowhere = record {
    stands = stands;
    cause = same_cause stand.room m.span.first k;
    lower = omega arith;
    fewer = omega arith;
    steps = spends_all (releases_from stand - releases_from stand) k;
  }

-- one step down after others
pub goes_on : (t : Terms) (m : Member) (a b c : Stand) (k l n : CallerData) → GoesTo t m a b k l → GoesTo t m b c l n → GoesTo t m a c k n
goes_on t m a b c k l n p q = record {
  stands = q.stands;
  cause = go c.room q.cause;
  lower = (let x = p.lower in let y = q.lower in omega (arith, x, y));
  fewer = (let x = p.fewer in let y = q.fewer in omega (arith, x, y));
  steps = (let x = p.fewer in let y = q.fewer in steps_after (releases_from a - releases_from b) (releases_from b - releases_from c) (releases_from a - releases_from c) k l n (omega (arith, x, y)) p.steps q.steps);
}
  where
    go : (r : Room) → IfNoneFree r (HasCause b.room m.span.first l n) → IfNoneFree r (HasCause a.room m.span.first k n)
    go room.Splitting cause = tt
    go room.NoneFree cause = cause_below a.room b.room m.span.first k l n (own_same (releases_from a - releases_from b) k l p.steps) p.steps.loads p.cause cause

-- A full child is split on the way down where a node is free; then the insertion goes on below.
use Rattle.std.proofs.Common.{◌≡◌, ℕ, List, ◌∷◌, ap, ◌∙◌, subst, Some, ◌<◌, length, sym, [], drop, refl, arith, inl}
use Rattle.tree_shape.specs.NodeData.{NodeData, Pairs, pairs_of, IsInFences, frame_of}
use Rattle.tree_laws.specs.Lawful.{IsFilled, IsOrdered}
use Rattle.tree_laws.specs.Steps.{IsFull}
use Rattle.word_rule.specs.declared.log.Holding.{Holding}
use Rattle.word_rule.specs.declared.log.Terms.{Terms}
use Rattle.word_rule.specs.Held.{held_of}
use Rattle.word_rule.specs.declared.log.Log.{Log}
use Rattle.word_rule.specs.CallerData.{CallerData}
use Rattle.word_rule.specs.declared.log.Receipts.{Receipts}
use Rattle.word_rule.specs.TreeRefusals.{HadNoRoom}
use Rattle.word_rule.specs.NodeTells.{KnowsTree}
use Rattle.word_rule.specs.Sights.{after_node_load}
use Rattle.tree_descent.specs.declared.descent.Held.{Held}
use Rattle.tree_descent.proofs.Settling.{found_first}
use Rattle.tree_descent.specs.Stands.{HasSpace, HoldsPair}
use Rattle.tree_descent.specs.Loads.{FoundNoRoom}
use Rattle.tree_descent.specs.Paths.{AreHigher}
use Rattle.tree_descent.specs.Releases.{LetsGo, Spends}
use Rattle.tree_descent.proofs.Descents.{steps_of_load}
use Rattle.tree_descent.proofs.Lowering.{pair_inner, settled_live}
use Rattle.tree_descent.proofs.Spending.{more_spent, spends_all, spends_one, spends_same, steps_after}
use Rattle.tree_descent.proofs.NodeSteps.{steps_then}
use Rattle.leaf_change.proofs.Releasing.{IsLowest, left_above}
use Rattle.node_split.specs.declared.split.Room.{Room}
use Rattle.node_split.specs.declared.split.Coupled.{Coupled}
use Rattle.node_split.specs.Splits.{HoldsFull, HoldsFullChild, SplitsChild, StaysHeld, TakesRoom}
use Rattle.node_split.proofs.Halved.{split_pair}
use Rattle.btree_change.specs.Stands.{HasWayOn, HasCause, HasSplit, IfNoneFree}
use Rattle.btree_change.proofs.NoRoom.{found_cause, no_room_now, same_cause}
use Rattle.btree_change.proofs.Standing.{lowest_of, stands_below}
use Rattle.node_split.specs.declared.split.Room.TheVariants as room

-- the child is found among what is held
pub child_found : (t : Terms) (pc : ℕ) (parent child : Held) (above held : List Holding) (lower upper : Holding) → held ≡ lower ∷ upper ∷ above → lower.node ≡ child.node → held_of child.node held ≡ Some lower
child_found t pc parent child above held lower upper is node = ap (held_of child.node) is ∙ subst (λ k. held_of k (lower ∷ upper ∷ above) ≡ Some lower) node (found_first lower (upper ∷ above))

-- an inner node with room has room for a pair
pub pairs_room : (s : NodeData) → s.body ≡ Pairs (pairs_of s) → HasSpace s.body → length (pairs_of s) < 15
pairs_room s inner room = subst HasSpace inner room

-- while nodes are split, there is room
pub splits_on : (way : Room) (pc : ℕ) (s : NodeData) (v : Log) → way ≡ room.Splitting → HasWayOn way pc s v → HasSpace s.body
splits_on way pc s v is h = subst (λ w. HasWayOn w pc s v) is h

-- where no node is free it doesn't matter which node is full
pub none_free_on : (way : Room) (pc : ℕ) (s u : NodeData) (v : Log) → way ≡ room.NoneFree → HasWayOn way pc s v → HasWayOn way pc u v
none_free_on way pc s u v is h = subst (λ w. HasWayOn w pc u v) (sym is) (subst (λ w. HasWayOn w pc s v) is h)

module _ (t : Terms) (pc : ℕ) (step : Coupled) (above : List Holding) (k : CallerData) (pair : HoldsPair t pc step.parent step.child above k.log.holdings) where
  pub child_order : IsOrdered step.child.content
  child_order = (settled_live t step.child.node step.child.content step.child.changed pair.lower pair.child_is).1.1.ordered

  pub child_filled : IsFilled step.child.node step.child.content
  child_filled = (settled_live t step.child.node step.child.content step.child.changed pair.lower pair.child_is).1.1.filled

  pub full_held : IsFull step.child.content.body → HoldsFull t step.child pc k.log.holdings
  full_held full = record {
    lock = pair.lower;
    found = child_found t pc step.parent step.child above k.log.holdings.held pair.lower pair.upper pair.held pair.child_is.node;
    here = pair.child_is;
    is_full = full;
    on_way = pair.here;
    within = pair.child_within;
    out = inl pair.out;
  }

  -- nothing was split
  pub stays_unsplit : above ≡ drop 2 k.log.holdings.held → HasWayOn step.room pc step.child.content k.log → step.child.content.level < step.parent.content.level → HasSplit t pc step step k k
  stays_unsplit is way less = record {
    pair = subst (λ hs. HoldsPair t pc step.parent step.child hs k.log.holdings) is pair;
    way = way;
    cause = same_cause step.room pc k;
    node = refl;
    frame = refl;
    less = less;
    steps = spends_all 1 k;
  }

  pub pair_kept : (k1 : CallerData) → StaysHeld k k1 → HoldsPair t pc step.parent step.child above k1.log.holdings
  pair_kept k1 stays = record {
    parent_within = pair.parent_within;
    child_within = pair.child_within;
    lower = pair.lower;
    upper = pair.upper;
    held = stays.held ∙ pair.held;
    child_is = pair.child_is;
    parent_is = pair.parent_is;
    leads = pair.leads;
    here = pair.here;
    inner = pair.inner;
    higher = pair.higher;
    out = stays.out ∙ pair.out;
  }

  -- the first free node was found locked, and the child is let go of
  pub child_lowest : (k1 : CallerData) (found : ℕ) (k2 : CallerData) → StaysHeld k k1 → KnowsTree k1.log.holdings → k2 ≡ record k1 { log = after_node_load step.child.node 2 found k1.log } → IsLowest step.child.node step.child.changed k2.log.holdings
  child_lowest k1 found k2 stays tree is =
      subst (λ (z : CallerData). IsLowest step.child.node step.child.changed z.log.holdings) (sym is)
      (lowest_of t step.child k1.log.holdings (stands_below t pc 0 step.parent step.child above k1.log.holdings (pair_kept k1 stays) tree))

  pub busy_gone : (k1 : CallerData) (found : ℕ) (k2 k3 : CallerData) → StaysHeld k k1 → KnowsTree k1.log.holdings → k2 ≡ record k1 { log = after_node_load step.child.node 2 found k1.log } → LetsGo step.child.node k2 k3 → (k3.log.holdings.held ≡ drop 1 k.log.holdings.held) × (k3.log.holdings.out ≡ []) × Spends 1 k k3
  busy_gone k1 found k2 k3 stays tree is goes = (
    left_above step.child.node step.child.changed k2 k3 (child_lowest k1 found k2 stays tree is) goes ∙ ap (drop 1) (ap (λ (z : CallerData). z.log.holdings.held) is ∙ stays.held),
    goes.out ∙ (ap (λ (z : CallerData). z.log.holdings.out) is ∙ (stays.out ∙ pair.out)),
    steps_after 0 1 1 k k2 k3 (omega arith) (spends_same k k2 (steps_then k k1 k2 stays.same (steps_of_load step.child.node 2 found k1 k2 is))) goes.steps,
  )

  -- no node was free
  pub none_split : (k1 : CallerData) → above ≡ drop 2 k.log.holdings.held → StaysHeld k k1 → FoundNoRoom pc k k1 → step.child.content.level < step.parent.content.level → HasSplit t pc step (record step { room = room.NoneFree }) k k1
  none_split k1 is stays found less = record {
    pair = record {
      parent_within = pair.parent_within;
      child_within = pair.child_within;
      lower = pair.lower;
      upper = pair.upper;
      held = stays.held ∙ (pair.held ∙ ap (λ hs. pair.lower ∷ pair.upper ∷ hs) is);
      child_is = pair.child_is;
      parent_is = pair.parent_is;
      leads = pair.leads;
      here = pair.here;
      inner = pair.inner;
      higher = subst (AreHigher t step.parent.content.level) is pair.higher;
      out = stays.out ∙ pair.out;
    };
    way = subst (λ (rs : Receipts). HadNoRoom pc (length rs.own) k1.log.trace.loads) (sym stays.same.calls.receipts) (no_room_now pc k k1 found);
    cause = found_cause step.room pc k k1 found;
    node = refl;
    frame = refl;
    less = less;
    steps = more_spent 0 1 k k1 (omega arith) (spends_same k k1 stays.same);
  }

  -- a node is out for the child's last half
  pub full_child : (fresh : ℕ) (k1 : CallerData) → k.log.terms ≡ t → TakesRoom fresh k k1 → IsFull step.child.content.body → IsInFences pc step.parent.content → HasSpace step.parent.content.body → HoldsFullChild t (record { parent = step.parent; child = step.child; fresh = fresh }) pc k1.log.holdings
  full_child fresh k1 terms takes full here room = record {
    parent_within = pair.parent_within;
    child_within = pair.child_within;
    fresh_within = subst (λ (z : Terms). fresh < z.nodes) terms takes.within;
    new = takes.new;
    lower = pair.lower;
    upper = pair.upper;
    rest = above;
    held = takes.held ∙ ap (λ hs. takes.new ∷ hs) pair.held;
    out = takes.out ∙ ap (λ ns. fresh ∷ ns) pair.out;
    free = takes.free;
    child = pair.child_is;
    parent = pair.parent_is;
    higher = pair.higher;
    leads = pair.leads;
    here = here;
    inner = pair_inner t pc step.parent step.child above k.log.holdings pair;
    room = pairs_room step.parent.content (pair_inner t pc step.parent step.child above k.log.holdings pair) room;
    is_full = full;
  }

  -- it was split
  pub was_split : (fresh : ℕ) (after : Coupled) (k1 k2 : CallerData) → above ≡ drop 2 k.log.holdings.held → TakesRoom fresh k k1 → (s : SplitsChild t (record { parent = step.parent; child = step.child; fresh = fresh }) pc after k1 k2) → HasSplit t pc step after k k2
  was_split fresh after k1 k2 is takes s =
      let rest : drop 3 k1.log.holdings.held ≡ drop 2 k.log.holdings.held = ap (drop 3) (takes.held ∙ ap (λ hs. takes.new ∷ hs) pair.held) ∙ is in
      let level : after.parent.content.level ≡ step.parent.content.level = ap (λ (h : Held). h.content.level) s.parent in record {
        pair = split_pair t pc _ _ after k1 k2 (drop 2 k.log.holdings.held) s rest pair.parent_within pair.inner (subst (AreHigher t step.parent.content.level) is pair.higher);
        way = subst (λ w. HasWayOn w pc after.child.content k2.log) (sym s.splitting) s.room;
        cause = subst (λ w. IfNoneFree w (HasCause step.room pc k k2)) (sym s.splitting) tt;
        node = ap (λ (h : Held). h.node) s.parent;
        frame = ap (λ (h : Held). frame_of h.content) s.parent;
        less = let l = s.lower_level in omega (arith, l, level);
        steps = steps_after 0 1 1 k k1 k2 (omega arith) (spends_same k k1 takes.same) (spends_one k1 k2 s.same);
      }

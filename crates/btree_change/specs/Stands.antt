-- Where an insertion stands on its way down, and what each part of it makes of its caller.
use Rattle.std.specs.Prelude.{◌≡◌, ◌<◌, List, [], ◌∷◌, ◌++◌, ℕ, ◌≤◌, Option, Some, None, slice_get}
use Rattle.std.specs.Prelude.{◌+◌, length, ◌*◌, drop, ◌-◌}
use Rattle.reg_model.specs.declared.span.Member.{Member}
use Rattle.tree_shape.specs.NodeData.{NodeData, pairs_of, slot_for, IsInFences, frame_of}
use Rattle.tree_shape.specs.declared.pair.Pair.{Pair}
use Rattle.tree_shape.specs.declared.limits.TheConstants.{HIGHEST_LEVEL}
use Rattle.word_rule.specs.declared.log.Holding.{Holding}
use Rattle.word_rule.specs.declared.log.Terms.{Terms}
use Rattle.word_rule.specs.TreeRefusals.{HadNoRoom}
use Rattle.word_rule.specs.declared.log.Log.{Log}
use Rattle.word_rule.specs.CallerData.{CallerData}
use Rattle.tree_descent.specs.declared.descent.Held.{Held}
use Rattle.tree_descent.specs.Stands.{HasSpace, StandsAt, HoldsPair}
use Rattle.tree_descent.specs.Loads.{FoundNoRoom, KeepsLoads}
use Rattle.tree_descent.specs.Releases.{Spends}
use Rattle.node_split.specs.declared.split.Room.{Room}
use Rattle.node_split.specs.declared.split.Coupled.{Coupled}
use Rattle.fence_move.specs.Spines.{Climbs}
use Rattle.btree_change.specs.declared.stand.Beyond.{Beyond}
use Rattle.btree_change.specs.Kept.{AreKept}
use Rattle.btree_change.specs.declared.stand.SpanEnd.{SpanEnd}
use Rattle.btree_change.specs.declared.path.KeptNode.{KeptNode}
use Rattle.btree_change.specs.declared.stand.Stand.{Stand}
use Rattle.btree_change.specs.declared.stand.SpanEnd.TheVariants as reach
use Rattle.node_split.specs.declared.split.Room.TheVariants as room

-- The node above both leaves is held above this one, which lies on its left spine. From there up
-- all is kept, and nothing above it.
pub record LiesBeyond (t : Terms) (b : Beyond) (lower : Holding) (above : List Holding)
    : Type 0 where
  pub spine : List Holding
  pub top : Holding
  pub split : above ≡ spine ++ top ∷ []
  pub node : top.node ≡ b.node
  pub within : b.node < t.nodes
  pub climb : Climbs b.slot lower spine top
  pub kept : AreKept t b.kept above

-- A span that ends at this address ends inside the node's fences, and nothing is held above; or it
-- ends beyond them, and the node above both leaves is known.
abbrev pub Reaches : Terms → ℕ → NodeData → Option Beyond → Holding → List Holding → Type 0
Reaches t last s None lower above = (last ≤ s.high) × (above ≡ [])
Reaches t last s (Some b) lower above = (s.high < last) × LiesBeyond t b lower above

-- the pair of a node for an address
abbrev pub IsPairFor : NodeData → ℕ → Pair → Type 0
IsPairFor s pc p = slice_get (pairs_of s) (slot_for pc (pairs_of s)) ≡ Some p

-- How far a span reaches that begins in a child of a node: to the child's end, to another child of
-- the node, or beyond its last one.
abbrev pub IsReach : NodeData → ℕ → ℕ → SpanEnd → Type 0
IsReach s pc last reach.Child = (p : Pair) × (IsPairFor s pc p × (last ≤ p.separator))
IsReach s pc last (reach.Parent slot) = (p : Pair) × (IsPairFor s pc p × (p.separator < last)
    × (slot ≡ slot_for pc (pairs_of s)) × (slot + 1 < length (pairs_of s)))
IsReach s pc last reach.Above = (p : Pair) × (IsPairFor s pc p × (p.separator < last)
    × (length (pairs_of s) ≡ slot_for pc (pairs_of s) + 1))

-- a node of the way, as it is kept
abbrev pub kept_node : Held → KeptNode
kept_node at = record { node = at.node; changed = at.changed }

-- the nodes that are kept above
abbrev pub kept_above : Option Beyond → List KeptNode
kept_above None = []
kept_above (Some b) = b.kept

-- where a node of the left spine is kept too
abbrev pub kept_too : Held → Option Beyond → Option Beyond
kept_too at None = None
kept_too at (Some b) = Some (record b { kept = kept_node at ∷ b.kept })

-- While nodes are split on the way the node has room. Where none is free the loads have the cause
-- of a Full.
abbrev pub HasWayOn : Room → ℕ → NodeData → Log → Type 0
HasWayOn room.Splitting base s v = HasSpace s.body
HasWayOn room.NoneFree base s v = HadNoRoom base (length v.receipts.own) v.trace.loads

-- what holds where no node is free for a split
abbrev pub IfNoneFree : Room → Type 0 → Type 0
IfNoneFree room.Splitting P = Unit {0}
IfNoneFree room.NoneFree P = P

-- The cause of a Full: where nodes were split before, it is among the loads of these steps; where
-- none was free, it was among those before, and they stay.
abbrev pub HasCause : Room → ℕ → CallerData → CallerData → Type 0
HasCause room.Splitting base k k' = FoundNoRoom base k k'
HasCause room.NoneFree base k k' = KeepsLoads k k'

-- Where an insertion stands, by a caller that isn't the loader.
pub record StandsOnWay (t : Terms) (m : Member) (stand : Stand) (v : Log) : Type 0 where
  pub at : StandsAt t stand.at v.holdings
  pub here : IsInFences m.span.first stand.at.content
  pub reach : Reaches t m.span.last stand.at.content stand.beyond at.lock at.above
  pub way : HasWayOn stand.room m.span.first stand.at.content v
  pub height : stand.at.content.level + length (kept_above stand.beyond) ≤ HIGHEST_LEVEL
  pub loader : v.loader ≡ None

-- At most so many releases for an insertion from where it stands: two for each node below, one for
-- each that is kept, and those of the node and of a right spine.
abbrev pub releases_from : Stand → ℕ
releases_from stand = 2 * stand.at.content.level + length (kept_above stand.beyond) + 13

-- A node is held under its parent; the node above the parent and the way on are known.
pub record HoldsStep (t : Terms) (pc : ℕ) (step : Coupled) (above : List Holding) (v : Log) : Type 0
  where
    pub pair : HoldsPair t pc step.parent step.child above v.holdings
    pub way : HasWayOn step.room pc step.parent.content v

-- The child has room now, or no node is free. The parent is the same node, at the same place.
pub record HasSplit (t : Terms) (pc : ℕ) (step after : Coupled) (k k' : CallerData) : Type 0 where
  pub pair : HoldsPair t pc after.parent after.child (drop 2 k.log.holdings.held) k'.log.holdings
  pub way : HasWayOn after.room pc after.child.content k'.log
  pub cause : IfNoneFree after.room (HasCause step.room pc k k')
  pub node : after.parent.node ≡ step.parent.node
  pub frame : frame_of after.parent.content ≡ frame_of step.parent.content
  pub less : after.child.content.level < step.parent.content.level
  pub steps : Spends 1 k k'

-- From where an insertion stood it went down to where it stands, by releases that it has less
-- then.
pub record GoesTo (t : Terms) (m : Member) (stand after : Stand) (k k' : CallerData) : Type 0 where
  pub stands : StandsOnWay t m after k'.log
  pub cause : IfNoneFree after.room (HasCause stand.room m.span.first k k')
  pub lower : after.at.content.level ≤ stand.at.content.level
  pub fewer : releases_from after ≤ releases_from stand
  pub steps : Spends (releases_from stand - releases_from after) k k'

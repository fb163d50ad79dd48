-- An insertion whose span ends beyond its leaf, in the next one.
use Rattle.std.specs.Prelude.{Some, ℕ, ◌+◌, length, ◌≡◌, ◌<◌, [], true, ◌∷◌, map}
use Rattle.reg_model.specs.declared.span.Member.{Member}
use Rattle.reg_model.specs.State.{IsFree}
use Rattle.tree_shape.specs.NodeData.{NodeData, IsInFences, entries_of}
use Rattle.tree_shape.specs.declared.node.NodeBounds.{NodeBounds}
use Rattle.tree_laws.specs.Steps.{LiesAbove}
use Rattle.word_rule.specs.declared.log.Log.{Log}
use Rattle.word_rule.specs.declared.log.Terms.{Terms}
use Rattle.word_rule.specs.declared.log.Holdings.{Holdings}
use Rattle.word_rule.specs.NodeTells.{IsLiveNode}
use Rattle.word_rule.specs.TreeRefusals.{HadNoRoom}
use Rattle.word_rule.specs.declared.log.Holding.{Holding}
use Rattle.tree_descent.specs.Stands.{StandsAt, HasSpace}
use Rattle.tree_descent.specs.Paths.{IsSettledLock}
use Rattle.fence_move.specs.Spines.{HoldsNext, HoldsLeafPair}
use Rattle.btree_change.specs.declared.beyond.Far.{Far}
use Rattle.btree_change.specs.Stands.{StandsOnWay}
use Rattle.btree_change.specs.Kept.{AreKept, HoldsPath, as_changed}
use Rattle.btree_change.specs.declared.beyond.Next.{Next}
use Rattle.node_split.specs.declared.split.Room.TheVariants as room

-- It stands at the leaf, and the node above both leaves is known.
abbrev pub StandsFar : Terms → Member → Far → Log → Type 0
StandsFar t m far v =
    StandsOnWay t m (record { at = far.leaf; beyond = Some far.beyond; room = far.room }) v

-- at most so many releases from there: those of what is kept, and of the leaf and a right spine
abbrev pub releases_far : Far → ℕ
releases_far far = length far.beyond.kept + 13

-- A span begins in this leaf, overlaps nothing there, and ends beyond it.
pub record EndsBeyond (m : Member) (s : NodeData) : Type 0 where
  pub level : s.level ≡ 0
  pub here : IsInFences m.span.first s
  pub high : s.high < m.span.last
  pub free : IsFree m.span (entries_of s)

-- The next leaf is held too, with its spine, over the leaf and what is kept above it.
pub record HoldsFar (t : Terms) (far : Far) (holdings : Holdings) : Type 0 where
  pub next : HoldsNext t far.beyond.node far.beyond.slot holdings
  pub leaf : StandsAt t far.leaf next.base
  pub kept : AreKept t far.beyond.kept leaf.above
  pub alone : next.way.rest ≡ []

-- The insertion holds both leaves, and knows what the next one is.
pub record IsAtNext (t : Terms) (m : Member) (n : Next) (v : Log) : Type 0 where
  pub holds : HoldsFar t n.far v.holdings
  pub ends : EndsBeyond m n.far.leaf.content
  pub node : holds.next.right.node ≡ n.right.node
  pub content : holds.next.right.settled ≡ n.right.content
  pub pair : HoldsLeafPair n.far.leaf.node n.far.leaf.content n.right.node n.right.content
      v.holdings
  pub place : (place : NodeBounds) × IsLiveNode t n.right.node n.right.content place
  pub cause : n.far.room ≡ room.NoneFree
      → HadNoRoom m.span.first (length v.receipts.own) v.trace.loads
  pub room : n.far.room ≡ room.Splitting → HasSpace n.far.leaf.content.body

-- The fence between the leaves may be moved to the span's last address, and the leaf has room.
pub record IsReadyFar (t : Terms) (m : Member) (far : Far) (holdings : Holdings) : Type 0 where
  pub holds : HoldsFar t far holdings
  pub ends : EndsBeyond m far.leaf.content
  pub lies : LiesAbove m.span.last holds.next.right.settled.body
  pub right_high : m.span.last < holds.next.right.settled.high
  pub room : HasSpace far.leaf.content.body

-- The fence was moved: the leaf and all that is kept above it were stored to, and have settled.
pub record HoldsMoved (t : Terms) (far : Far) (holdings : Holdings) : Type 0 where
  pub lock : Holding
  pub path : HoldsPath t (map as_changed far.beyond.kept) (lock ∷ []) holdings
  pub within : far.leaf.node < t.nodes
  pub leaf : IsSettledLock t far.leaf.node lock.settled true lock
  pub out : holdings.out ≡ []

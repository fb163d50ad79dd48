-- What is held once the halves of a full node were written, and the node above them.
use Rattle.std.specs.Prelude.{◌≡◌, ℕ, true, None, IsSome, [], ◌∷◌, drop}
use Rattle.tree_shape.specs.NodeData.{NodeData}
use Rattle.word_rule.specs.Spelling.{SpellsNode}
use Rattle.word_rule.specs.declared.log.Holding.{Holding}
use Rattle.word_rule.specs.CallerData.{CallerData}
use Rattle.word_rule.specs.NodeTells.{KnowsTree}
use Rattle.tree_descent.specs.declared.descent.Held.{Held}
use Rattle.tree_descent.specs.Paths.{StepsOnNodes}
use Rattle.node_split.specs.declared.root_split.FullRoot.{FullRoot}
use Rattle.node_split.specs.Splits.{root_parts_for, parts_for}
use Rattle.node_split.specs.declared.split.FullChild.{FullChild}

-- The lock of a new node that was written: the node has no place in the tree yet.
pub record IsNewLock (n : ℕ) (s : NodeData) (h : Holding) : Type 0 where
  pub node : h.node ≡ n
  pub mark : h.mark ≡ None
  pub spells : SpellsNode h.words s
  pub stored : h.stored ≡ true

-- The lock of a live node that was written: it settled last as what it was before.
pub record IsWrittenLock (at : Held) (s : NodeData) (h : Holding) : Type 0 where
  pub node : h.node ≡ at.node
  pub settled : h.settled ≡ at.content
  pub marked : IsSome h.mark
  pub spells : SpellsNode h.words s
  pub stored : h.stored ≡ true

-- The halves of the full root were written, and the root over them. It is known of which tree the
-- root is.
pub record WritesRootParts (full : FullRoot) (k k' : CallerData) : Type 0 where
  pub tree : KnowsTree k.log.holdings
  pub right : Holding
  pub left : Holding
  pub upper : Holding
  pub held : k'.log.holdings.held ≡ right ∷ left ∷ upper ∷ []
  pub out : k'.log.holdings.out ≡ full.right ∷ full.left ∷ []
  pub right_new : IsNewLock full.right (root_parts_for full).right right
  pub left_new : IsNewLock full.left (root_parts_for full).left left
  pub root_written : IsWrittenLock full.root (root_parts_for full).above upper
  pub same : StepsOnNodes k k'

-- The halves of a full child were written, and its parent with a pair more. It is known of which
-- tree they are.
pub record WritesParts (full : FullChild) (pc : ℕ) (k k' : CallerData) : Type 0 where
  pub tree : KnowsTree k.log.holdings
  pub new : Holding
  pub lower : Holding
  pub upper : Holding
  pub held : k'.log.holdings.held ≡ new ∷ lower ∷ upper ∷ drop 3 k.log.holdings.held
  pub out : k'.log.holdings.out ≡ full.fresh ∷ []
  pub right_new : IsNewLock full.fresh (parts_for full pc).right new
  pub child_written : IsWrittenLock full.child (parts_for full pc).left lower
  pub parent_written : IsWrittenLock full.parent (parts_for full pc).above upper
  pub same : StepsOnNodes k k'

-- The value that contracts see of a node of the code, and what its type keeps.
use Rattle.std.specs.Prelude.{◌≤◌, take}
use Rattle.tree_shape.specs.NodeData.{NodeData, Body, Pairs, Entries, Link}
use Rattle.tree_shape.specs.declared.node.Content.{Content}
use Rattle.tree_shape.specs.declared.node.Content.TheVariants.{Inner, Leaf, Free}
use Rattle.tree_shape.specs.declared.limits.TheConstants.{PAIRS, ENTRIES}
use Rattle.tree_shape.specs.declared.node.NodeBounds.{NodeBounds}
use Rattle.tree_shape.specs.declared.node.Node.TheInside.{Inside}

-- the first `count` pairs or entries
abbrev pub body_of : Content → Body
body_of (Inner count pairs) = Pairs (take count pairs)
body_of (Leaf count entries) = Entries (take count entries)
body_of (Free next) = Link next

abbrev pub node_data : Inside → NodeData
node_data n = record { level = n.level; low = n.low; high = n.high; body = body_of n.content }

-- the count is at most the length of the array
abbrev pub IsCounted : Content → Type 0
IsCounted (Inner count pairs) = count ≤ PAIRS
IsCounted (Leaf count entries) = count ≤ ENTRIES
IsCounted (Free next) = Unit {0}

-- the node of this level and these fences that holds this
abbrev pub framed : NodeBounds → Body → NodeData
framed frame body = record { level = frame.level; low = frame.low; high = frame.high; body = body }

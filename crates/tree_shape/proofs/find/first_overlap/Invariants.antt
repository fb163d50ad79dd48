use Rattle.std.proofs.Common.{take}
use Rattle.reg_model.specs.State.{IsFree}
use Rattle.tree_shape.specs.NodeData.{entries_of}
use Rattle.tree_shape.proofs.find.first_overlap.Given as goal

-- none of the entries so far overlaps
abbrev pub invariant-loop-first : goal.invariant-loop-first
invariant-loop-first l = IsFree l.span (take l.first-index (entries_of l.node))

use Rattle.std.proofs.Common.{◌≡◌, ◌+◌, drop}
use Rattle.tree_shape.specs.NodeData.{pairs_of, slot_for}
use Rattle.node_store.specs.Outlines.{OnlyLoads}
use Rattle.node_store.proofs.outline.slot_of.Given as goal

-- only separators were loaded, and the slot is among the pairs that are left
abbrev pub invariant-loop-slot : goal.invariant-loop-slot
invariant-loop-slot l = record {
  loads : OnlyLoads l.fn.me l.me;
  left : slot_for l.pc (pairs_of l.outline) ≡ slot_for l.pc (drop l.slot (pairs_of l.outline)) + l.slot;
}

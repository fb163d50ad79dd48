use Rattle.std.proofs.Common.{◌≡◌, ◌+◌, drop}
use Rattle.tree_shape.specs.NodeData.{pairs_of, slot_for}
use Rattle.tree_shape.proofs.find.inner_slot.Given as goal

-- the slot is among the pairs that are left
abbrev pub invariant-loop-slot : goal.invariant-loop-slot
invariant-loop-slot l = slot_for l.pc (pairs_of l.node) ≡ slot_for l.pc (drop l.slot (pairs_of l.node)) + l.slot

use Rattle.std.proofs.Common.{length, ap, arith}
use Rattle.tree_shape.specs.NodeData.{pairs_of}
use Rattle.tree_shape.proofs.Orders.{inner_order}
use Rattle.tree_shape.proofs.Slots.{slot_inside}
use Rattle.tree_shape.proofs.find.inner_slot.Goals as goal

-- the last separator is the high fence, so the loop has found a slot
pub returns-clause-found : goal.returns-clause-found
returns-clause-found c =
    let cut = inner_order c.args.node.now c.requires.inner c.requires.ordered in
    let inside = slot_inside c.args.pc 0 c.args.node.now.high (pairs_of c.args.node.now) cut (omega arith) c.requires.high in
    absurd (omega (arith, inside, c.loop-slot.invariant, ap length c.pairs-pairs.ensures.value))

use Rattle.std.proofs.Common.{arith}
use Rattle.tree_shape.proofs.join.move_fence.Goals as goal

pub overflow_add-shortened : goal.overflow_add-shortened
overflow_add-shortened c = omega (arith, c.high-high.type_inv)

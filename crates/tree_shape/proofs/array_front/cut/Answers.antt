use Rattle.std.proofs.Common.{arith}
use Rattle.tree_shape.proofs.Rows.{take_over, drop_over}
use Rattle.tree_shape.proofs.array_front.cut.Goals as goal

pub returns-else-n-first-clause-before : goal.returns-else-n-first-clause-before
returns-else-n-first-clause-before g c = take_over c.args.first.now c.args.last.now c.args.n (omega arith)

pub returns-else-n-first-clause-after : goal.returns-else-n-first-clause-after
returns-else-n-first-clause-after g c = drop_over c.args.first.now c.args.last.now c.args.n (omega arith)

use Rattle.frame_expr.proofs.Parts.{anywhere}
use Rattle.frame_expr.proofs.expr.Expr.of_read.Goals as goal

pub invariant_of-result : goal.invariant_of-result
invariant_of-result g c = record { spelled = anywhere g.row.DEPTH c.requires.0 c.args.bytes.now c.args.bytes.now c.requires.1 }

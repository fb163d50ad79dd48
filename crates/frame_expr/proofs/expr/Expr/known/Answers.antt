use Rattle.frame_expr.proofs.Parts.{known}
use Rattle.frame_expr.proofs.expr.Expr.known.Goals as goal

pub returns : goal.returns
returns g c = known g.row.DEPTH c.args.self.now.bytes.now c.args.self.now.spelled

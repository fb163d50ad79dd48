use Rattle.std.proofs.Common.{length}
use Rattle.frame_expr.proofs.Going.{IsAt}
use Rattle.frame_expr.proofs.evaluate.value.Given as goal

abbrev pub invariant-loop-cursor : goal.invariant-loop-cursor
invariant-loop-cursor g l = IsAt g.row.DEPTH l.expr.bytes.now l.regs.columns (g.M.WordSource.regions l.memory) l.fn.start l.cursor l.stack

abbrev pub decreases-loop-cursor : goal.decreases-loop-cursor
decreases-loop-cursor g l = length l.cursor.bytes

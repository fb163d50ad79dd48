use Rattle.std.proofs.Common.{◌≡◌, ◌≤◌, length}
use Rattle.eh_bytes.specs.Steps.{steps_from}
use Rattle.frame_expr.specs.Expressions.{next_operation}
use Rattle.frame_expr.proofs.expr.Expr.read_rest.Given as goal

abbrev pub invariant-loop-cursor : goal.invariant-loop-cursor
invariant-loop-cursor g l =
    ((steps_from next_operation g.row.DEPTH).read l.initial.cursor ≡ (steps_from next_operation l.entries).read l.cursor) × (l.entries ≤ 32)

abbrev pub decreases-loop-cursor : goal.decreases-loop-cursor
decreases-loop-cursor g l = length l.cursor.bytes

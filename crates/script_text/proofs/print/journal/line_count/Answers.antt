use Rattle.std.proofs.Common.{arith}
use Rattle.script_text.proofs.TraceLines.{trace_count}
use Rattle.script_text.proofs.print.journal.line_count.Goals as goal

pub returns-in-Unwind : goal.returns-in-Unwind
returns-in-Unwind c = rw c.in-Unwind.is (rw (← c.trace.view_is) (omega (arith, trace_count (record { frames = c.trace.inside.frames.items; end = c.trace.inside.end }))))

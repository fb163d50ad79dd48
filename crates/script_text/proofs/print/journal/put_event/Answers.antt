use Rattle.std.proofs.Common.{arith}
use Rattle.script_text.specs.Text.{answer_lines, event_line}
use Rattle.script_text.proofs.TraceLines.{line_added}
use Rattle.script_text.proofs.print.journal.put_event.Goals as goal

pub loop-line-preserved : goal.loop-line-preserved
loop-line-preserved c =
    line_added (event_line c.args.number.round c.args.number.thread c.args.number.event) (answer_lines c.args.answer.now) c.loop-line.line (omega (arith, c.line_count-line-end.ensures, c.loop-line-test.true)) _ _ _ c.loop-line.invariant c.in_ok-put_event_line.ensures.text

use Rattle.std.proofs.Common.{◌∙◌, arith}
use Rattle.script_text.specs.Text.{answer_lines, event_line}
use Rattle.run_ports.proofs.Lines.{line_gains, line_gains_part}
use Rattle.run_engine.proofs.writing.write_answer.Goals as goal

pub loop-line-preserved : goal.loop-line-preserved
loop-line-preserved g c =
    record {
      gained = line_gains (event_line c.args.number.round c.args.number.thread c.args.number.event) (answer_lines c.args.answer.now) c.loop-line.line (omega (arith, c.line_count-line-end.ensures, c.loop-line-test.true)) _ _ _ c.loop-line.invariant.gained c.in-Ok.ensures.ok;
      writable = c.in-Ok.ensures.goes_on;
      sound = c.in-Ok.ensures.sound (λ is. cc) ∙ c.loop-line.invariant.sound;
    }

pub returns-in-Err-clause-err : goal.returns-in-Err-clause-err
returns-in-Err-clause-err g c =
    line_gains_part (event_line c.args.number.round c.args.number.thread c.args.number.event) (answer_lines c.args.answer.now) c.loop-line.line (omega (arith, c.line_count-line-end.ensures, c.loop-line-test.true)) _ _ _ c.loop-line.invariant.gained c.in-Err.ensures.err

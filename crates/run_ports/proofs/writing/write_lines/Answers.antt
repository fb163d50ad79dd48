use Rattle.std.proofs.Common.{◌∙◌}
use Rattle.run_ports.proofs.Lines.{item_gains, item_gains_part}
use Rattle.run_ports.proofs.writing.write_lines.Goals as goal

pub loop-line-preserved : goal.loop-line-preserved
loop-line-preserved g c =
    record {
      gained = item_gains (λ line. line.items) c.args.lines.now c.loop-line.line-index c.line-item.result c.deref.result.now c.loop-line-test.true c.line-item.is c.deref.ensures.value _ _ _ c.loop-line.invariant.gained c.in-Ok.ensures.ok;
      writable = c.in-Ok.ensures.goes_on;
      sound = c.in-Ok.ensures.sound (λ is. cc) ∙ c.loop-line.invariant.sound;
    }

pub returns-in-Err-clause-err : goal.returns-in-Err-clause-err
returns-in-Err-clause-err g c =
    item_gains_part (λ line. line.items) c.args.lines.now c.loop-line.line-index c.line-item.result c.deref.result.now c.loop-line-test.true c.line-item.is c.deref.ensures.value _ _ _ c.loop-line.invariant.gained c.in-Err.ensures.err

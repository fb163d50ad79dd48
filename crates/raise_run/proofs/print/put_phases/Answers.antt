use Rattle.raise_run.specs.RaiseText.{phase_line}
use Rattle.raise_run.proofs.Lines.{counted_next}
use Rattle.raise_run.proofs.print.put_phases.Goals as goal

pub loop-number-preserved : goal.loop-number-preserved
loop-number-preserved c =
    counted_next (phase_line c.args.word.now) c.args.phases.now c.loop-number.number c.index-phases-number.result c.loop-number-test.true c.index-phases-number.is _ _ _ c.loop-number.invariant c.in_ok-put_phase.ensures

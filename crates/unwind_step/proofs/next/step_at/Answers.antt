use Rattle.unwind_step.proofs.OneStep.{only_step}
use Rattle.unwind_step.proofs.next.step_at.Goals as goal

pub returns-in-Some-clause-only : goal.returns-in-Some-clause-only
returns-in-Some-clause-only g c = λ other signal is.
    let found = c.in-Some.field-0 in
    only_step c.one_answer.ensures (g.S.RowSource.section c.args.source.now) c.args.look found.fde found.row c.args.regs.now.columns (g.M.WordSource.regions c.args.memory.now) c.follow.result other signal c.in-Some.ensures c.follow.ensures is

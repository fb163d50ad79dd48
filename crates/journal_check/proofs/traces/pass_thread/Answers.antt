use Rattle.std.proofs.Common.{Ok, arith}
use Rattle.journal_check.proofs.Passing.{answer_on, answers_end}
use Rattle.journal_check.proofs.traces.pass_thread.Goals as goal

pub loop-answer-preserved : goal.loop-answer-preserved
loop-answer-preserved c =
    let here = rw (c.in_ok-next.was) at c.pass_answer.ensures in
    λ r rest. c.loop-answer.invariant r (answer_on c.args.script.now c.args.answers.now c.loop-answer.answer-index c.answer-item.result c.loop-answer-test.true c.answer-item.is c.loop-answer.next c.in_ok-next.next r here rest)

pub returns : goal.returns
returns c = c.loop-answer.invariant (Ok c.loop-answer.next) (answers_end c.args.script.now c.args.answers.now c.loop-answer.answer-index c.loop-answer.next (omega (arith, c.loop-answer-test.false)))

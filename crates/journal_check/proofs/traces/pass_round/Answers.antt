use Rattle.std.proofs.Common.{List, Ok, Err, arith, subst}
use Rattle.script_text.specs.declared.journal.Answer.{Answer}
use Rattle.journal_check.specs.Passing.{IsPassed}
use Rattle.journal_check.proofs.Passing.{part_on, part_stop, parts_end, stop_handed}
use Rattle.journal_check.proofs.traces.pass_round.Goals as goal

pub returns-in_err-next : goal.returns-in_err-next
returns-in_err-next c =
    let script = c.args.script.now in
    let stopped = subst (λ (answers : List Answer). IsPassed script answers c.loop-thread.next (Err c.in_err-next.field-0.0)) c.deref.ensures.value c.in_err-next.ensures in
    let part = part_stop script (λ xs. xs) (λ thread. thread.items) c.args.round.now c.loop-thread.thread-index c.thread-item.result c.loop-thread-test.true c.thread-item.is c.loop-thread.next c.in_err-next.field-0.0 stopped in
    stop_handed script _ c.args.line c.in_err-next.field-0.0 c.from_residual.result c.from_residual.ensures.1 (c.loop-thread.invariant (Err c.in_err-next.field-0.0) part)

pub loop-thread-preserved : goal.loop-thread-preserved
loop-thread-preserved c =
    let here = rw (c.deref.ensures.value, c.in_ok-next.was) at c.pass_thread.ensures in
    λ r rest. c.loop-thread.invariant r (part_on c.args.script.now (λ xs. xs) (λ thread. thread.items) c.args.round.now c.loop-thread.thread-index c.thread-item.result c.loop-thread-test.true c.thread-item.is c.loop-thread.next c.in_ok-next.next r here rest)

pub returns : goal.returns
returns c = c.loop-thread.invariant (Ok c.loop-thread.next) (parts_end c.args.script.now (λ xs. xs) (λ thread. thread.items) c.args.round.now c.loop-thread.thread-index c.loop-thread.next (omega (arith, c.loop-thread-test.false)))

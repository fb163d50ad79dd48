use Rattle.std.proofs.Common.{Ok, Err, arith, map, subst}
use Rattle.journal_check.specs.Passing.{IsPassed}
use Rattle.journal_check.specs.TextFlaws.{flattened}
use Rattle.journal_check.proofs.Passing.{part_on, part_stop, parts_end, stop_handed}
use Rattle.journal_check.proofs.traces.pass_rounds.Goals as goal

pub returns-in_err-next : goal.returns-in_err-next
returns-in_err-next c =
    let script = c.args.script.now in
    let stopped = subst (λ threads. IsPassed script (flattened (map (λ thread. thread.items) threads)) c.loop-round.next (Err c.in_err-next.field-0.0)) c.deref.ensures.value c.in_err-next.ensures in
    let part = part_stop script (λ round. flattened round) (λ round. map (λ thread. thread.items) round.items) c.args.rounds.now c.loop-round.round-index c.round-item.result c.loop-round-test.true c.round-item.is c.loop-round.next c.in_err-next.field-0.0 stopped in
    stop_handed script _ 1 c.in_err-next.field-0.0 c.from_residual.result c.from_residual.ensures.1 (c.loop-round.invariant (Err c.in_err-next.field-0.0) part)

pub loop-round-preserved : goal.loop-round-preserved
loop-round-preserved c =
    let here = rw (c.deref.ensures.value, c.in_ok-next.was) at c.pass_round.ensures in
    λ r rest. c.loop-round.invariant r (part_on c.args.script.now (λ round. flattened round) (λ round. map (λ thread. thread.items) round.items) c.args.rounds.now c.loop-round.round-index c.round-item.result c.loop-round-test.true c.round-item.is c.loop-round.next c.in_ok-next.next r here rest)

pub returns : goal.returns
returns c = c.loop-round.invariant (Ok c.loop-round.next) (parts_end c.args.script.now (λ round. flattened round) (λ round. map (λ thread. thread.items) round.items) c.args.rounds.now c.loop-round.round-index c.loop-round.next (omega (arith, c.loop-round-test.false)))

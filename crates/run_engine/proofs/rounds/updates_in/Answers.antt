use Rattle.std.proofs.Common.{arith}
use Rattle.run_engine.proofs.Teams.{count_fits, counted_next}
use Rattle.run_engine.proofs.rounds.updates_in.Goals as goal

pub overflow_add-count : goal.overflow_add-count
overflow_add-count c =
    let fits = count_fits c.args.events.now _ c.loop-event.event-index _ _ c.requires c.loop-event.invariant c.updates_of-count.ensures in
    omega (arith, fits)

pub loop-event-preserved : goal.loop-event-preserved
loop-event-preserved c = counted_next c.args.events.now c.loop-event.event-index _ _ c.loop-event-test.true c.loop-event.invariant c.updates_of-count.ensures

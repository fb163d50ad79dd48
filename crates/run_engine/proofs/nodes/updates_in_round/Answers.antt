use Rattle.std.proofs.Common.{ap, ◌∙◌, sym, arith}
use Rattle.std.proofs.lemmas.List.Sums.{sum_by_more, sum_by_more_le}
use Rattle.run_engine.specs.Played.{updates_in}
use Rattle.run_engine.proofs.NodeCounts.{events_few, round_few}
use Rattle.run_engine.proofs.nodes.updates_in_round.Goals as goal

pub updates_in-count-requires : goal.updates_in-count-requires
updates_in-count-requires c = events_few c.args.threads.now c.loop-thread.thread-index c.loop-thread-test.true c.thread-item.result c.deref.result.now c.thread-item.is (c.deref.ensures.value ∙ c.thread.view_is) c.requires

pub overflow_add-count : goal.overflow_add-count
overflow_add-count c =
    let within = sum_by_more_le updates_in c.args.threads.now c.loop-thread.thread-index c.thread-item.result c.loop-thread-test.true in
    let one = ap updates_in (sym c.thread-item.is ∙ sym (c.deref.ensures.value ∙ c.thread.view_is)) in
    let few = round_few c.args.threads.now c.requires in
    let so_far = c.loop-thread.invariant in
    let here = c.updates_in-count.ensures in
    omega (arith, within, one, few, so_far, here)

pub loop-thread-preserved : goal.loop-thread-preserved
loop-thread-preserved c =
    let more = sum_by_more updates_in c.args.threads.now c.loop-thread.thread-index c.thread-item.result c.loop-thread-test.true in
    let one = ap updates_in (sym c.thread-item.is ∙ sym (c.deref.ensures.value ∙ c.thread.view_is)) in
    let so_far = c.loop-thread.invariant in
    let here = c.updates_in-count.ensures in
    omega (arith, more, one, so_far, here)

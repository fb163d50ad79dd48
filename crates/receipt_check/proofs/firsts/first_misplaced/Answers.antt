use Rattle.receipt_check.specs.Flaws.{ComesInOrder, ComesInRound}
use Rattle.receipt_check.proofs.Sought.{sought_more, sought_all}
use Rattle.receipt_check.proofs.firsts.first_misplaced.Goals as goal

pub loop-row-preserved : goal.loop-row-preserved
loop-row-preserved c = record {
  order = rw c.lower-order.ensures (sought_more ComesInOrder c.args.told.now c.loop-row.row-index c.row-item.result c.loop-row.order c.comes_in_order.result c.loop-row-test.true c.row-item.is c.comes_in_order.ensures c.loop-row.invariant.order);
  round = rw c.lower-round.ensures (sought_more ComesInRound c.args.told.now c.loop-row.row-index c.row-item.result c.loop-row.round c.comes_in_round.result c.loop-row-test.true c.row-item.is c.comes_in_round.ensures c.loop-row.invariant.round);
}

pub returns : goal.returns
returns c = record {
  order = sought_all ComesInOrder c.args.told.now _ c.loop-row.order c.loop-row-test.false c.loop-row.invariant.order;
  round = sought_all ComesInRound c.args.told.now _ c.loop-row.round c.loop-row-test.false c.loop-row.invariant.round;
}

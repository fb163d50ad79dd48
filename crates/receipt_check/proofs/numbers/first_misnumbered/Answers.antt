use Rattle.receipt_check.specs.Flaws.{HasOwnNumber}
use Rattle.receipt_check.proofs.Sought.{sought_more, sought_all}
use Rattle.receipt_check.proofs.numbers.first_misnumbered.Goals as goal

pub loop-row-preserved : goal.loop-row-preserved
loop-row-preserved c =
    rw c.lower-first.ensures (sought_more (HasOwnNumber c.args.told.now c.args.updates) c.args.told.now c.loop-row.row-index c.row-item.result c.loop-row.first c.has_own_number.result c.loop-row-test.true c.row-item.is (c.has_own_number.ensures c.args.told.now c.in_ok-lines.ensures) c.loop-row.invariant)

pub returns : goal.returns
returns c = sought_all (HasOwnNumber c.args.told.now c.args.updates) c.args.told.now _ c.loop-row.first c.loop-row-test.false c.loop-row.invariant

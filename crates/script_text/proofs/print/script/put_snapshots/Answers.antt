use Rattle.script_text.proofs.Spelled.{snapshot_more}
use Rattle.script_text.proofs.print.script.put_snapshots.Goals as goal

pub loop-number-preserved : goal.loop-number-preserved
loop-number-preserved c = snapshot_more _ _ _ c.args.snapshots.now c.loop-number.number c.index-snapshots-number.result c.loop-number-test.true c.index-snapshots-number.is c.loop-number.invariant c.in_ok-put_snapshot.ensures

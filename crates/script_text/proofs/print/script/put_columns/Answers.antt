use Rattle.script_text.proofs.Spelled.{column_more}
use Rattle.script_text.proofs.print.script.put_columns.Goals as goal

pub loop-column-preserved : goal.loop-column-preserved
loop-column-preserved c = column_more _ _ _ c.args.columns.now c.loop-column.column-index c.loop-column-test.true c.loop-column.invariant c.in_ok-put_column.ensures

use Rattle.std.specs.Prelude.{All}
use Rattle.row_table.specs.Initials.{IsCieRow}
use Rattle.row_table.specs.Making.{rows_in}
use Rattle.row_table.specs.Tables.{HasFdeWithRow, HasRowsOf}
use Rattle.row_table.proofs.table.RowTable.of.Given as goal

abbrev pub invariant-loop-index : goal.invariant-loop-index
invariant-loop-index l = record {
  rows : HasRowsOf l.section l.index (record { begins = l.begins.items; rows = rows_in l.rows });
  initials : All (IsCieRow l.section) l.initials;
  come : All (HasFdeWithRow l.section) l.rows.course.distinct;
}

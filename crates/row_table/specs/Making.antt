-- Rows as they are made.
use Rattle.row_table.specs.Tables.{RowsData}
use Rattle.row_table.specs.declared.made_rows.Rows.{Rows}

-- the rows that were made
abbrev pub rows_in : Rows → RowsData
rows_in r = record {
  starts = r.starts.items;
  numbers = r.numbers.items;
  distinct = r.course.distinct;
}

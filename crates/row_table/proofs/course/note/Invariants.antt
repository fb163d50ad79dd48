use Rattle.std.proofs.Common.{List, ◌+◌, ◌-◌, length}
use Rattle.frame_rows.specs.declared.placed_row.PlacedRow.{PlacedRow}
use Rattle.row_table.specs.Courses.{HaveRowNumbers}
use Rattle.row_table.proofs.course.note.Given as goal

abbrev pub invariant-unknown : goal.invariant-unknown
invariant-unknown l = (distinct states : List PlacedRow) → HaveRowNumbers distinct states l.fn.numbers.items → HaveRowNumbers distinct states l.numbers.items

abbrev pub decreases-unknown : goal.decreases-unknown
decreases-unknown l = l.index + 1 - length l.numbers.items

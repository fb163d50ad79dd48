use Rattle.std.proofs.Common.{◌≡◌, length}
use Rattle.frame_rows.specs.Rows.{IsInitialRow}
use Rattle.row_table.specs.Courses.{standing}
use Rattle.row_table.specs.Making.{rows_in}
use Rattle.row_table.proofs.Spans.{HasSpans}
use Rattle.row_table.proofs.Walks.{GoesOn}
use Rattle.row_table.proofs.made_rows.Rows.add.Given as goal

abbrev pub invariant-loop-step : goal.invariant-loop-step
invariant-loop-step l = record {
  on : GoesOn l.fde l.base l.program l.location (standing l.self.course).row (standing l.self.course).kept;
  base : IsInitialRow l.fde l.base;
  left : (standing l.self.course).base ≡ l.base;
  spans : HasSpans l.fde (rows_in l.fn.self) (rows_in l.self) l.location;
}

abbrev pub decreases-loop-step : goal.decreases-loop-step
decreases-loop-step l = length l.program.rest.bytes

use Rattle.std.proofs.Common.{◌+◌, ◌*◌, ◌≤◌, length}
use Rattle.frame_rows.specs.declared.placed_row.PlacedRow.{PlacedRow}
use Rattle.frame_rows.specs.Walk.{ComesTo}
use Rattle.frame_rows.proofs.walk.+walk.Given as goal

abbrev pub decreases-walk : goal.decreases-walk
decreases-walk g l = 2 * length l.program.now.rest.bytes

abbrev pub decreases-walk_back : goal.decreases-walk_back
decreases-walk_back g l = 2 * length l.program.now.rest.bytes + 1

abbrev pub invariant-walk-loop-step : goal.invariant-walk-loop-step
invariant-walk-loop-step g l = record {
  shorter : length l.program.rest.bytes ≤ length l.fn.program.rest.bytes;
  leads : (given : PlacedRow) → g.B.Base.gives l.base given → ComesTo given l.pc l.fn.program l.fn.row l.program l.row;
}

abbrev pub decreases-walk-loop-step : goal.decreases-walk-loop-step
decreases-walk-loop-step g l = length l.program.rest.bytes

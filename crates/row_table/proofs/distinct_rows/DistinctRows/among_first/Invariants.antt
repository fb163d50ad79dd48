use Rattle.std.proofs.Common.{◌≢◌, ℕ, ◌<◌, get_or}
use Rattle.frame_rows.specs.Rows.{unset}
use Rattle.row_table.proofs.distinct_rows.DistinctRows.among_first.Given as goal

-- none of those before is the row
abbrev pub invariant-loop-index : goal.invariant-loop-index
invariant-loop-index l = (i : ℕ) → i < l.index → get_or l.self i unset ≢ l.row

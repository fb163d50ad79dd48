use Rattle.std.proofs.Common.{◌≡◌, ℕ, List, length}
use Rattle.frame_rows.specs.Rules.{lent_row}
use Rattle.frames_c.specs.Rows.{AreToldRules}
use Rattle.frames_c.proofs.told_rows.tell_columns.Given as goal

-- the columns so far are told
abbrev pub invariant-loop-column : goal.invariant-loop-column
invariant-loop-column l = record {
  told : (bytes : List ℕ) → AreToldRules (lent_row bytes l.row) l.column l.kinds l.numbers;
  kinds : length l.kinds ≡ 17;
  numbers : length l.numbers ≡ 17;
}

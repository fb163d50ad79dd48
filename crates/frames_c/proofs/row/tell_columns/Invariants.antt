use Rattle.std.proofs.Common.{◌≡◌, length}
use Rattle.frames_c.specs.Rows.{AreToldRules}
use Rattle.frames_c.proofs.row.tell_columns.Given as goal

-- the columns so far are told
abbrev pub invariant-loop-column : goal.invariant-loop-column
invariant-loop-column l = record {
  told : AreToldRules l.row l.column l.kinds l.numbers;
  kinds : length l.kinds ≡ 17;
  numbers : length l.numbers ≡ 17;
}

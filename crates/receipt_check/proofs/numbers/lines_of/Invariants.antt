use Rattle.std.proofs.Common.{take}
use Rattle.receipt_check.specs.Sweep.{AreLines}
use Rattle.receipt_check.proofs.numbers.lines_of.Given as goal

-- of those that were passed
abbrev pub invariant-loop-row : goal.invariant-loop-row
invariant-loop-row l = AreLines (take l.row-index l.told) l.lines

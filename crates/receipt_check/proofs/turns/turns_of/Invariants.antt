use Rattle.std.proofs.Common.{take}
use Rattle.receipt_check.specs.Sweep.{AreTurns}
use Rattle.receipt_check.proofs.turns.turns_of.Given as goal

-- those that were passed
abbrev pub invariant-loop-row : goal.invariant-loop-row
invariant-loop-row l = AreTurns (take l.row-index l.told) l.turns.items

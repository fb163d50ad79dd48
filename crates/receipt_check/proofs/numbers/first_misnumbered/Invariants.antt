use Rattle.std.proofs.Common.{take}
use Rattle.receipt_check.specs.Flaws.{HasOwnNumber}
use Rattle.receipt_check.specs.Search.{IsSought}
use Rattle.receipt_check.proofs.numbers.first_misnumbered.Given as goal

-- the first line of those that were passed
abbrev pub invariant-loop-row : goal.invariant-loop-row
invariant-loop-row l = IsSought (HasOwnNumber l.told l.updates) (take l.row-index l.told) l.first

use Rattle.std.proofs.Common.{take}
use Rattle.receipt_check.specs.Flaws.{ComesInOrder, ComesInRound}
use Rattle.receipt_check.specs.Search.{IsSought}
use Rattle.receipt_check.proofs.firsts.first_misplaced.Given as goal

-- the first lines of those that were passed
abbrev pub invariant-loop-row : goal.invariant-loop-row
invariant-loop-row l = record {
  order : IsSought ComesInOrder (take l.row-index l.told) l.order;
  round : IsSought ComesInRound (take l.row-index l.told) l.round;
}

use Rattle.std.proofs.Common.{take}
use Rattle.receipt_check.specs.Flaws.{HoldsAsTold}
use Rattle.receipt_check.specs.Search.{IsSought}
use Rattle.receipt_check.specs.Sweep.{rows_of}
use Rattle.receipt_check.proofs.InTurn.{StandsBefore}
use Rattle.receipt_check.proofs.answers.first_wrong.Given as goal

-- the answers of the turns so far are judged, and the state is that of a moment before the next ones
abbrev pub invariant-loop-turn : goal.invariant-loop-turn
invariant-loop-turn l = record {
  stands : StandsBefore l.account.start l.history l.turns l.turn-index l.present;
  sought : IsSought (HoldsAsTold l.account) (take l.turn-index (rows_of l.turns)) l.first;
}

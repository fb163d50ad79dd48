use Rattle.std.proofs.Common.{take, All}
use Rattle.receipt_check.specs.declared.turns.Turn.{Turn}
use Rattle.receipt_check.specs.Flaws.{told_history}
use Rattle.receipt_check.proofs.InTurn.{StandsBefore}
use Rattle.receipt_check.proofs.Misfits.{FitsThere}
use Rattle.receipt_check.proofs.history.first_misfit.Given as goal

-- the updates of the turns so far fit, and the state is that of a moment before the next ones
abbrev pub invariant-loop-turn : goal.invariant-loop-turn
invariant-loop-turn l = record {
  stands : StandsBefore l.account.start l.history l.turns l.turn-index l.present;
  fit : All (λ (t : Turn). FitsThere l.account.start (told_history l.account) t.row.now) (take l.turn-index l.turns);
}

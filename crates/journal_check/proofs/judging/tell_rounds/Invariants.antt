use Rattle.std.proofs.Common.{◌≡◌, map, drop}
use Rattle.journal_check.specs.Telling.{tell_rounds}
use Rattle.journal_check.proofs.judging.tell_rounds.Given as goal

-- with the rounds that are left
abbrev pub invariant-loop-round : goal.invariant-loop-round
invariant-loop-round l =
    tell_rounds l.images l.callers l.done l.teller (map (λ round. map (λ thread. thread.items) round.items) (drop l.round-index l.rounds))
    ≡ tell_rounds l.images 1 0 l.fn.teller (map (λ round. map (λ thread. thread.items) round.items) l.rounds)

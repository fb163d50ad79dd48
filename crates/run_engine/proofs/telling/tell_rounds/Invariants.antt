use Rattle.std.proofs.Common.{◌≡◌, map}
use Rattle.run_engine.specs.Kept.{rounds_told}
use Rattle.run_engine.proofs.telling.tell_rounds.Given as goal

-- the rounds so far are told
abbrev pub invariant-loop-kept : goal.invariant-loop-kept
invariant-loop-kept l = map (λ round. map (λ thread. thread.items) round.items) l.answers.items ≡ rounds_told l.images l.rounds l.yielded

use Rattle.std.proofs.Common.{◌≡◌, map}
use Rattle.run_engine.specs.Kept.{round_told}
use Rattle.run_engine.proofs.telling.tell_round.Given as goal

-- the threads so far are told
abbrev pub invariant-loop-kept : goal.invariant-loop-kept
invariant-loop-kept l = map (λ thread. thread.items) l.answers.items ≡ round_told l.images l.threads l.yielded

use Rattle.std.proofs.Common.{◌≡◌, take, length}
use Rattle.std.specs.List.{sum_by}
use Rattle.script_generator.proofs.counting.threads_in.Given as goal

-- the threads so far
abbrev pub invariant-loop-round : goal.invariant-loop-round
invariant-loop-round l = l.count ≡ sum_by (λ round. length round.items) (take l.round-index l.rounds)

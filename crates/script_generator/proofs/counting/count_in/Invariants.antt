use Rattle.std.proofs.Common.{◌≡◌, take}
use Rattle.std.specs.List.{sum_by}
use Rattle.script_generator.specs.Summaries.{counted_in}
use Rattle.script_generator.proofs.counting.count_in.Given as goal

-- what the rounds so far have
abbrev pub invariant-loop-round : goal.invariant-loop-round
invariant-loop-round l = l.count ≡ sum_by (λ round. sum_by (λ thread. sum_by (counted_in l.what) thread.items) round.items) (take l.round-index l.rounds)

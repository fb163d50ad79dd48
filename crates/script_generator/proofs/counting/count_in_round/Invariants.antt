use Rattle.std.proofs.Common.{◌≡◌, take}
use Rattle.std.specs.List.{sum_by}
use Rattle.script_generator.specs.Summaries.{counted_in}
use Rattle.script_generator.proofs.counting.count_in_round.Given as goal

-- what the threads so far have
abbrev pub invariant-loop-thread : goal.invariant-loop-thread
invariant-loop-thread l = l.count ≡ sum_by (λ thread. sum_by (counted_in l.what) thread.items) (take l.thread-index l.threads)

use Rattle.std.proofs.Common.{◌≡◌, take}
use Rattle.std.specs.List.{sum_by}
use Rattle.run_engine.specs.Played.{updates_in}
use Rattle.run_engine.proofs.nodes.updates_in_round.Given as goal

-- the threads so far
abbrev pub invariant-loop-thread : goal.invariant-loop-thread
invariant-loop-thread l = l.count ≡ sum_by updates_in (take l.thread-index l.threads)

use Rattle.std.proofs.Common.{◌≡◌, map, take}
use Rattle.run_engine.specs.Played.{updates_in}
use Rattle.run_engine.proofs.rounds.gives_of.Given as goal

-- the threads so far
abbrev pub invariant-loop-thread : goal.invariant-loop-thread
invariant-loop-thread l = l.gives.items ≡ map updates_in (take l.thread-index l.threads)

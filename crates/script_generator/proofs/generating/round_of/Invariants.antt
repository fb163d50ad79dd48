use Rattle.std.proofs.Common.{◌≡◌, map}
use Rattle.std.specs.List.{range_with_len}
use Rattle.script_generator.specs.Generator.{generated_events}
use Rattle.script_generator.proofs.generating.round_of.Given as goal

-- the threads so far
abbrev pub invariant-loop-thread : goal.invariant-loop-thread
invariant-loop-thread l = l.threads.items ≡ map (generated_events l.count) (range_with_len 0 l.thread)

use Rattle.std.proofs.Common.{◌≡◌, map}
use Rattle.std.specs.List.{range_with_len}
use Rattle.script_generator.specs.Generator.{generated_stack}
use Rattle.script_generator.proofs.stacks.stacks_of.Given as goal

-- the stacks so far
abbrev pub invariant-loop-thread : goal.invariant-loop-thread
invariant-loop-thread l = l.stacks.items ≡ map generated_stack (range_with_len 0 l.thread)

use Rattle.std.proofs.Common.{◌≡◌, map}
use Rattle.std.specs.List.{range_with_len, flat_map}
use Rattle.script_generator.specs.Generator.{generated_span}
use Rattle.script_generator.proofs.images.images_of.Given as goal

-- the images of the threads so far
abbrev pub invariant-loop-thread : goal.invariant-loop-thread
invariant-loop-thread l = l.images.items ≡ flat_map (λ thread. map (generated_span thread) l.order) (range_with_len 0 l.thread)

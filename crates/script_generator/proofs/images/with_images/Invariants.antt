use Rattle.std.proofs.Common.{◌≡◌, ◌++◌, map, take}
use Rattle.script_generator.specs.Generator.{generated_span}
use Rattle.script_generator.proofs.images.with_images.Given as goal

-- the images so far
abbrev pub invariant-loop-image : goal.invariant-loop-image
invariant-loop-image l = l.images.items ≡ l.fn.images.items ++ map (generated_span l.thread) (take l.image-index l.order)

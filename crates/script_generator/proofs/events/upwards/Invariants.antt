use Rattle.std.proofs.Common.{◌≡◌}
use Rattle.script_generator.specs.Generator.{images_up}
use Rattle.script_generator.proofs.events.upwards.Given as goal

-- the images so far
abbrev pub invariant-loop-image : goal.invariant-loop-image
invariant-loop-image l = l.order.items ≡ images_up l.image

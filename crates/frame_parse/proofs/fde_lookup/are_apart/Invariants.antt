use Rattle.std.proofs.Common.{◌≡◌, length}
use Rattle.frame_parse.specs.Lookups.{are_apart}
use Rattle.frame_parse.proofs.fde_lookup.are_apart.Given as goal

abbrev pub invariant-loop-left : goal.invariant-loop-left
invariant-loop-left l = are_apart l.ranges ≡ are_apart l.left

abbrev pub decreases-loop-left : goal.decreases-loop-left
decreases-loop-left l = length l.left

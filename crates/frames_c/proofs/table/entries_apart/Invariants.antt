use Rattle.std.proofs.Common.{◌≡◌, length}
use Rattle.frames_c.specs.TableEntries.{entries_apart}
use Rattle.frames_c.proofs.table.entries_apart.Given as goal

abbrev pub invariant-loop-left : goal.invariant-loop-left
invariant-loop-left l = entries_apart l.entries ≡ entries_apart l.left

abbrev pub decreases-loop-left : goal.decreases-loop-left
decreases-loop-left l = length l.left

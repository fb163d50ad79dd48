use Rattle.std.proofs.Common.{ℕ, ◌≤◌, length}
use Rattle.unwind_c.specs.Ranges.{AreSearchable, IsOutsideAt}
use Rattle.unwind_c.proofs.ranges.unwind_c_cover.Given as goal

abbrev pub invariant-loop-left : goal.invariant-loop-left
invariant-loop-left l = (l.left ≤ length l.ranges) × (AreSearchable l.ranges → (i : ℕ) → l.left ≤ i → IsOutsideAt l.ranges l.pc i)

abbrev pub decreases-loop-left : goal.decreases-loop-left
decreases-loop-left l = l.left

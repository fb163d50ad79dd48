use Rattle.std.proofs.Common.{ℕ, ◌≤◌, ◌-◌, length}
use Rattle.unwind_c.specs.Ranges.{AreSearchable, IsOutsideAt}
use Rattle.unwind_c.proofs.ranges.begun.Given as goal

abbrev pub invariant-loop-low : goal.invariant-loop-low
invariant-loop-low l = (l.low ≤ l.high) × (l.high ≤ length l.ranges) × (AreSearchable l.ranges → (i : ℕ) → l.high ≤ i → IsOutsideAt l.ranges l.pc i)

abbrev pub decreases-loop-low : goal.decreases-loop-low
decreases-loop-low l = l.high - l.low

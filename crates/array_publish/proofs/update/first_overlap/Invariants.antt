use Rattle.std.proofs.Common.{◌-◌, ◌≤◌, length}
use Rattle.array_publish.proofs.Overlaps.{EndAbove, EndBelow}
use Rattle.array_publish.proofs.update.first_overlap.Given as goal

abbrev pub invariant-loop-low : goal.invariant-loop-low
invariant-loop-low l = record {
  order : (l.low ≤ l.high) × (l.high ≤ length l.members);
  below : EndBelow l.members l.span.first l.low;
  above : EndAbove l.members l.span.first l.high;
}

abbrev pub decreases-loop-low : goal.decreases-loop-low
decreases-loop-low l = l.high - l.low

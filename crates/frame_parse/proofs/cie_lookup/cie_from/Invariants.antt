use Rattle.std.proofs.Common.{ℕ, ◌-◌, ◌<◌, ◌≤◌, length, get_or}
use Rattle.frame_parse.specs.Sections.{starts}
use Rattle.frame_parse.proofs.cie_lookup.cie_from.Given as goal

abbrev pub invariant-loop-low : goal.invariant-loop-low
invariant-loop-low l = record {
  ordered : l.low ≤ l.high;
  within : l.high ≤ length l.cies;
  below : (k : ℕ) → k < l.low → get_or (starts l.cies) k 0 < l.place;
  above : (k : ℕ) → l.high ≤ k → k < length l.cies → l.place ≤ get_or (starts l.cies) k 0;
}

abbrev pub decreases-loop-low : goal.decreases-loop-low
decreases-loop-low l = l.high - l.low

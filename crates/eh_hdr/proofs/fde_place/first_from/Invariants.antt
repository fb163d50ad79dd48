use Rattle.std.proofs.Common.{ℕ, ◌-◌, ◌<◌, ◌≤◌, length, get_or}
use Rattle.frame_parse.specs.Sections.{fde_starts}
use Rattle.eh_hdr.proofs.fde_place.first_from.Given as goal

abbrev pub invariant-loop-low : goal.invariant-loop-low
invariant-loop-low l = record {
  ordered : l.low ≤ l.high;
  within : l.high ≤ length l.section.fdes;
  below : (k : ℕ) → k < l.low → get_or (fde_starts l.section.fdes) k 0 < l.place;
  above : (k : ℕ) → l.high ≤ k → k < length l.section.fdes → l.place ≤ get_or (fde_starts l.section.fdes) k 0;
}

abbrev pub decreases-loop-low : goal.decreases-loop-low
decreases-loop-low l = l.high - l.low

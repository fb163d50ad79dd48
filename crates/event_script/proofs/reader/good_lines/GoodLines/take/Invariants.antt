use Rattle.std.proofs.Common.{ℕ, ◌++◌, List, length, ◌≡◌, ◌≢◌, ◌<◌, ◌≤◌, get_or}
use Rattle.event_script.specs.Taken.{AreLinesOf}
use Rattle.event_script.proofs.Taken.{GoOn}
use Rattle.event_script.proofs.reader.good_lines.GoodLines.take.Given as goal

-- the lines that ended are good, and the next one ends at end
abbrev pub invariant-loop-end : goal.invariant-loop-end
invariant-loop-end l = record {
  so_far : (bytes : List ℕ) → AreLinesOf bytes l.fn.self → GoOn (bytes ++ l.fn.piece) l.rest l.draft l.number l.kept.items;
  within : l.end ≤ length l.rest;
  before : (k : ℕ) → k < l.end → get_or l.rest k 0 ≢ 10;
  found : l.end < length l.rest → get_or l.rest l.end 0 ≡ 10;
}

abbrev pub decreases-loop-end : goal.decreases-loop-end
decreases-loop-end l = length l.rest

use Rattle.std.proofs.Common.{◌-◌, ◌≤◌}
use Rattle.array_publish.specs.Holders.{LoadsHeld, active_words}
use Rattle.array_publish.specs.Writing.{EndsBelow, EndsFrom}
use Rattle.array_publish.proofs.active.ending_below.Given as goal

abbrev pub invariant-loop-low : goal.invariant-loop-low
invariant-loop-low l = record {
  loads : LoadsHeld l.fn.me l.me;
  order : (l.low ≤ l.high) × (l.high ≤ l.active.count);
  below : EndsBelow (active_words l.fn.me.log.loader) l.address l.low;
  above : EndsFrom (active_words l.fn.me.log.loader) l.address l.active.count l.high;
}

abbrev pub decreases-loop-low : goal.decreases-loop-low
decreases-loop-low l = l.high - l.low

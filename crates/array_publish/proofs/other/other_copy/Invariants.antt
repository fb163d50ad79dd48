use Rattle.std.proofs.Common.{◌≡◌, ◌≢◌, ◌-◌, ◌≤◌, ◌⊎◌}
use Rattle.array_publish.specs.Holders.{LoadsHeld, active_words, member_in, spare_words}
use Rattle.array_publish.proofs.other.other_copy.Given as goal

abbrev pub invariant-loop-low : goal.invariant-loop-low
invariant-loop-low l = record {
  loads : LoadsHeld l.fn.me l.me;
  order : (l.low ≤ l.high) × (l.high ≤ l.active.count) × (l.high ≤ l.count);
  below : (l.low ≡ 0) ⊎ ((member_in (active_words l.fn.me.log.loader) (l.low - 1)).span.first ≡ (member_in (spare_words l.fn.me.log.loader) (l.low - 1)).span.first);
  above : ((l.high ≡ l.active.count) ⊎ (l.high ≡ l.count)) ⊎ ((member_in (active_words l.fn.me.log.loader) l.high).span.first ≢ (member_in (spare_words l.fn.me.log.loader) l.high).span.first);
}

abbrev pub decreases-loop-low : goal.decreases-loop-low
decreases-loop-low l = l.high - l.low

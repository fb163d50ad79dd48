use Rattle.std.proofs.Common.{◌<◌, ◌≤◌, ◌-◌, length}
use Rattle.unwind_c.specs.Tables.{IsAfter, IsBegun}
use Rattle.unwind_c.proofs.tables.halved.Given as goal

abbrev pub invariant-loop-high : goal.invariant-loop-high
invariant-loop-high l = (l.low < l.high) × (l.high ≤ length l.entries) × IsBegun l.entries l.wanted l.low × IsAfter l.entries l.wanted l.high

abbrev pub decreases-loop-high : goal.decreases-loop-high
decreases-loop-high l = l.high - l.low

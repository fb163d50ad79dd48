use Rattle.std.proofs.Common.{◌-◌}
use Rattle.node_store.proofs.LeafMoves.{Putting}
use Rattle.node_store.proofs.entries.put_in_place.Given as goal

-- the entries behind the one at hand have moved
abbrev pub invariant-loop-old : goal.invariant-loop-old
invariant-loop-old l = Putting l.node l.placed.place l.placed.member l.outline l.fn.me l.old l.me

abbrev pub decreases-loop-old : goal.decreases-loop-old
decreases-loop-old l = l.old.at - l.first

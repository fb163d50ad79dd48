use Rattle.std.proofs.Common.{◌-◌}
use Rattle.node_store.proofs.LeafMoves.{Cutting}
use Rattle.node_store.proofs.entries.cut_in_place.Given as goal

-- the entries behind the one at hand have moved
abbrev pub invariant-loop-later : goal.invariant-loop-later
invariant-loop-later l = Cutting l.node l.place l.outline l.fn.me l.later l.me

abbrev pub decreases-loop-later : goal.decreases-loop-later
decreases-loop-later l = l.later.at - l.first

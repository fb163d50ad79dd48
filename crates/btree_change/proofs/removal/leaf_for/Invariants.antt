use Rattle.std.proofs.Common.{◌+◌, ◌-◌, ◌≤◌}
use Rattle.tree_shape.specs.NodeData.{IsInFences}
use Rattle.tree_descent.specs.Releases.{Spends}
use Rattle.tree_descent.specs.Removing.{HoldsAlone, IsSpare}
use Rattle.btree_change.proofs.removal.leaf_for.Given as goal

abbrev pub invariant-loop-me : goal.invariant-loop-me
invariant-loop-me g l = record {
  alone : HoldsAlone l.words.terms l.at l.me.log.holdings;
  here : IsInFences l.pc l.at.content;
  spare : IsSpare l.at.node l.at.content;
  low : l.at.content.level ≤ 12;
  spends : Spends (24 - (l.at.content.level + l.at.content.level)) l.fn.me l.me;
}

abbrev pub decreases-loop-me : goal.decreases-loop-me
decreases-loop-me g l = l.at.content.level

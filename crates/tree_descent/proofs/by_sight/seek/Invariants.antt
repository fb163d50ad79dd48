use Rattle.std.proofs.Common.{◌≡◌}
use Rattle.btree_lookup.specs.Visits.{SeesCount}
use Rattle.tree_descent.specs.BySight.{CountFits}
use Rattle.tree_descent.proofs.by_sight.seek.Given as goal

abbrev pub invariant-loop-at : goal.invariant-loop-at
invariant-loop-at l = record {
  table : l.me.table ≡ l.words.table;
  sees : SeesCount l.words.terms l.pc l.fn.me l.at.visit l.at.count l.me;
  fits : CountFits l.request l.at;
}

abbrev pub decreases-loop-at : goal.decreases-loop-at
decreases-loop-at l = l.at.visit.level

use Rattle.std.proofs.Common.{◌≡◌, ◌-◌, ◌≤◌, List, length}
use Rattle.word_rule.specs.declared.log.Holding.{Holding}
use Rattle.tree_descent.specs.Releases.{Spends}
use Rattle.btree_change.specs.Kept.{HoldsPath}
use Rattle.btree_change.proofs.path.let_go_of_path.Given as goal

abbrev pub invariant-loop-kept : goal.invariant-loop-kept
invariant-loop-kept g l = record {
  holds : (below : List Holding) → HoldsPath l.words.terms l.fn.path below l.fn.me.log.holdings → HoldsPath l.words.terms l.path below l.me.log.holdings;
  fewer : length l.path ≤ length l.fn.path;
  spends : Spends (length l.fn.path - length l.path) l.fn.me l.me;
  out : l.me.log.holdings.out ≡ l.fn.me.log.holdings.out;
}

abbrev pub decreases-loop-kept : goal.decreases-loop-kept
decreases-loop-kept g l = length l.path

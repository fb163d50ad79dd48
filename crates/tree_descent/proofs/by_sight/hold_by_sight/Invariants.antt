use Rattle.tree_descent.specs.Paths.{HoldsNothing, StepsOnNodes}
use Rattle.tree_descent.proofs.by_sight.hold_by_sight.Given as goal

abbrev pub invariant-loop : goal.invariant-loop
invariant-loop g l = record {
  same : StepsOnNodes l.fn.me l.me;
  nothing : HoldsNothing l.me.log.holdings;
}

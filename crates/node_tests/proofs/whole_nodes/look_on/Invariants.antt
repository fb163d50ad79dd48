use Rattle.std.proofs.Common.{◌≡◌}
use Rattle.node_tests.proofs.whole_nodes.look_on.Given as goal

abbrev pub invariant-loop-step : goal.invariant-loop-step
invariant-loop-step l = l.me.table ≡ l.words.table

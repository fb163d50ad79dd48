use Rattle.std.proofs.Common.{◌≡◌, ◌+◌, ◌≤◌, []}
use Rattle.word_rule.specs.CallerData.{surplus}
use Rattle.free_list.specs.Free.{HoldsOut}
use Rattle.node_tests.proofs.whole_nodes.write_often.Given as goal

abbrev pub invariant-loop-step : goal.invariant-loop-step
invariant-loop-step g l = record { table : l.me.table ≡ l.words.table; holds : HoldsOut l.me.log; out : l.me.log.holdings.out ≡ []; room : 1000 ≤ surplus l.me + l.step }

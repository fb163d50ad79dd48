use Rattle.std.proofs.Common.{◌≡◌}
use Rattle.word_rule.specs.Callers.{IsIdle}
use Rattle.engine_tests.proofs.tree_changes.look_at.Given as goal

abbrev pub invariant-loop-node : goal.invariant-loop-node
invariant-loop-node l = record { table : l.me.table ≡ l.registry.table; idle : IsIdle l.me.log }

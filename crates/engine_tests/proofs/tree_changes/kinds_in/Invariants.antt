use Rattle.std.proofs.Common.{◌≡◌}
use Rattle.word_rule.specs.Callers.{IsIdle}
use Rattle.engine_tests.proofs.tree_changes.kinds_in.Given as goal

abbrev pub invariant-loop-update : goal.invariant-loop-update
invariant-loop-update g l = record { table : l.me.table ≡ l.registry.table; idle : IsIdle l.me.log }

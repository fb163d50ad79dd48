use Rattle.std.specs.Prelude.{◌≡◌}
use Rattle.word_rule.specs.Callers.{IsIdle}
use Rattle.registry_tests.proofs.leaves.insert_many.Given as goal

abbrev pub invariant-loop-at : goal.invariant-loop-at
invariant-loop-at g l = record {
  table : l.me.table ≡ l.fn.me.table;
  idle : IsIdle l.me.log;
}

use Rattle.std.proofs.Common.{◌≡◌, ◌<◌}
use Rattle.word_rule.specs.Callers.{IsIdle}
use Rattle.registry_tests.proofs.leaves.find_leftmost.Given as goal

abbrev pub invariant-loop : goal.invariant-loop
invariant-loop l = record {
  table : l.me.table ≡ l.words.table;
  same : l.me.table ≡ l.fn.me.table;
  idle : IsIdle l.me.log;
  nodes : l.nodes ≡ l.words.terms.nodes;
  parent : l.parent < l.words.terms.nodes;
  leaf : l.leaf < l.words.terms.nodes;
}

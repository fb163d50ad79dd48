use Rattle.std.proofs.Common.{◌≡◌, ◌<◌}
use Rattle.registry_tests.proofs.writers.sees_bit.Given as goal

abbrev pub invariant-loop : goal.invariant-loop
invariant-loop l = record {
  table : l.me.table ≡ l.words.table;
  same : l.me.table ≡ l.fn.me.table;
  inside : l.node < l.words.terms.nodes;
  holdings : l.me.log.holdings ≡ l.fn.me.log.holdings;
  loader : l.me.log.loader ≡ l.fn.me.log.loader;
}

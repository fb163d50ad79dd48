use Rattle.std.proofs.Common.{◌≡◌, ◌<◌}
use Rattle.btree_lookup.specs.Visits.{Way}
use Rattle.btree_lookup.proofs.lookup.try_find.Given as goal

abbrev pub invariant-loop-visit : goal.invariant-loop-visit
invariant-loop-visit g l = record {
  table : (g.L.Looker.known l.me).table ≡ l.words.table;
  inside : l.visit.node < l.words.terms.nodes;
  way : Way l.words.terms l.pc (g.L.Looker.known l.fn.me) l.visit (g.L.Looker.known l.me);
}

abbrev pub decreases-loop-visit : goal.decreases-loop-visit
decreases-loop-visit g l = l.visit.level

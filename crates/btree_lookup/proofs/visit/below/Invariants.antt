use Rattle.std.proofs.Common.{◌≡◌, ℕ}
use Rattle.word_rule.specs.CallerData.{CallerData}
use Rattle.btree_lookup.specs.Visits.{SeesBelow}
use Rattle.btree_lookup.proofs.visit.below.Given as goal
use Rattle.btree_lookup.proofs.Turns.{Turned}

abbrev pub invariant-loop-at : goal.invariant-loop-at
invariant-loop-at g l = record {
  table : (g.L.Looker.known l.me).table ≡ l.words.table;
  goes : Turned l.ahead l.at l.slot;
  below : (k : CallerData) → (count : ℕ) → SeesBelow l.words.terms l.pc k l.visit count l.fn.slots.start l.fn.slots.start (g.L.Looker.known l.fn.me)
      → SeesBelow l.words.terms l.pc k l.visit count l.at l.slot (g.L.Looker.known l.me);
}

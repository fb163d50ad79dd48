use Rattle.std.proofs.Common.{◌≡◌, ℕ}
use Rattle.word_rule.specs.CallerData.{CallerData}
use Rattle.btree_lookup.specs.Visits.{SeesLater}
use Rattle.btree_lookup.proofs.entry.later_begun.Given as goal
use Rattle.btree_lookup.proofs.Turns.{Turned}

abbrev pub invariant-loop-at : goal.invariant-loop-at
invariant-loop-at g l = record {
  table : (g.L.Looker.known l.me).table ≡ l.words.table;
  goes : Turned l.ahead l.at l.later;
  later : (k : CallerData) → (count : ℕ) → SeesLater l.words.terms l.pc k l.visit count 0 0 (g.L.Looker.known l.fn.me)
      → SeesLater l.words.terms l.pc k l.visit count l.at l.later (g.L.Looker.known l.me);
}

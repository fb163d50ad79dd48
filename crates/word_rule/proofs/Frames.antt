-- The table's invariant after a step of one log, from what holds of its parts.
use Rattle.std.proofs.Common.{◌≡◌, ℕ, ◌+◌, ◌<◌, ◌≤◌, List, [], ◌∷◌, ◌++◌, length, get_or, set, sym, ◌∙◌, subst, arith, false}
use Rattle.std.specs.List.{AllByRecursion}
use mathlib.Core.Option.{some}
use lib.ListN.{get_elem?}
use Rattle.atomic_table.specs.Table.{State}
use Rattle.word_rule.specs.declared.log.Terms.{Terms}
use Rattle.word_rule.specs.declared.log.LoadEvent.{LoadEvent}
use Rattle.word_rule.specs.declared.log.Log.{Log}
use Rattle.word_rule.specs.SharedWords.{SharedWords, memory_of}
use Rattle.word_rule.specs.Logs.{is_nameless, turns}
use Rattle.word_rule.specs.Callers.{total, CallersHold, IsAlone}
use Rattle.word_rule.specs.Observations.{ObservationsHold}
use Rattle.word_rule.specs.TableInvariant.{MemoryHolds, TableInvariant, IsStill}
use Rattle.word_rule.proofs.Facts.{total_same, after_step}
use Rattle.word_rule.proofs.Each.{all_map, all_append}
use Rattle.word_rule.proofs.Memories.{set_same}
use Rattle.word_rule.proofs.Lineages.{none_alone}
use Rattle.word_rule.proofs.NodesFrame.{nodes_same}

-- the table as the kit has it
abbrev pub Sit : Type 0
Sit = State (Unit {0}) Log

-- words that were loaded are vacuously as found once a turn more was made
pub still_after_turn : (words : List ℕ) (v w : Log) → turns v.trace < turns w.trace → w.trace.loads ≡ v.trace.loads → AllByRecursion (λ l. (l.turns ≤ turns v.trace) × (l.receipts ≤ length v.receipts.own)) v.trace.loads → IsStill words w
still_after_turn words v w more same earlier = subst (AllByRecursion (λ l. l.turns ≡ turns w.trace → get_or words l.word 0 ≡ l.found)) (sym same)
    (all_map (λ l. (l.turns ≤ turns v.trace) × (l.receipts ≤ length v.receipts.own)) (λ l. l.turns ≡ turns w.trace → get_or words l.word 0 ≡ l.found) (λ l e is. let a = e.0 in absurd (omega (arith, a, is, more))) v.trace.loads earlier)

-- and after a load that found the word
pub still_after_load : (words : List ℕ) (v w : Log) (l : LoadEvent) → turns w.trace ≡ turns v.trace → w.trace.loads ≡ v.trace.loads ++ l ∷ [] → get_or words l.word 0 ≡ l.found → IsStill words v → IsStill words w
still_after_load words v w l same loads found still = subst (AllByRecursion (λ k. k.turns ≡ turns w.trace → get_or words k.word 0 ≡ k.found)) (sym loads)
    (all_append (λ k. k.turns ≡ turns w.trace → get_or words k.word 0 ≡ k.found) v.trace.loads (l ∷ [])
    (all_map (λ k. k.turns ≡ turns v.trace → get_or words k.word 0 ≡ k.found) (λ k. k.turns ≡ turns w.trace → get_or words k.word 0 ≡ k.found) (λ k e is. e (is ∙ same)) v.trace.loads still) ((λ _. found), tt))

module _ (t : Terms) (words : List ℕ) (views : List Log) (r : TableInvariant t words views) (id : ℕ) (w : Log) where
  -- a step that changes no word leaves the words that others found as they are
  pub no_word_step : MemoryHolds t (memory_of t words) (set views id w) → (IsAlone w.lineage → IsStill words w) → TableInvariant t words (set views id w)
  no_word_step holds still = record {
    wide = r.wide;
    memory = holds;
    alone = after_step (λ _ u. IsAlone u.lineage → IsStill words u) views id w still (λ j u _ there. r.alone j u there);
  }

  -- as does a load
  pub load_step : (k : ℕ) → MemoryHolds t (memory_of t words) (set views id w) → (IsAlone w.lineage → IsStill words w) → TableInvariant t (set words k (get_or words k 0)) (set views id w)
  load_step k holds still = subst (λ ws. TableInvariant t ws (set views id w)) (sym (set_same words k)) (no_word_step holds still)

module _ (t : Terms) (words : List ℕ) (views : List Log) (r : TableInvariant t words views) (id : ℕ) (v w : Log) (at : get_elem? views id ≡ some v) (stands : is_nameless v.role ≡ false) where
  abbrev m : SharedWords
  m = memory_of t words

  pub table_step : (words' : List ℕ) (m' : SharedWords) → length words' ≡ length words → memory_of t words' ≡ m' → MemoryHolds t m' (set views id w) → (IsAlone w.lineage → IsStill words' w) → TableInvariant t words' (set views id w)
  table_step words' m' wide is memory still = record {
    wide = wide ∙ r.wide;
    memory = subst (λ k. MemoryHolds t k (set views id w)) (sym is) memory;
    alone = after_step (λ _ u. IsAlone u.lineage → IsStill words' u) views id w still
        (λ j u far there alone. absurd (none_alone views r.memory.callers.lineages id j v u at stands there far alone));
  }

  -- a step that changes the loader's version word, or none, and neither holdings nor the history
  pub loader_memory : (x : ℕ) → w.holdings ≡ v.holdings → w.made ≡ v.made → CallersHold t (record m { loader = x }) (set views id w) r.memory.history
      → ObservationsHold t m r.memory.history (total (λ u. u.made) views + 1) r.memory.shadow w → MemoryHolds t (record m { loader = x }) (set views id w)
  loader_memory x holdings made callers mine =
      let same : total (λ u. u.made) (set views id w) ≡ total (λ u. u.made) views = total_same (λ u. u.made) views id v w at made in record {
        history = r.memory.history;
        callers = callers;
        shadow = r.memory.shadow;
        nodes = nodes_same views id v w at t m.nodes r.memory.history r.memory.shadow holdings r.memory.nodes;
        active = r.memory.active;
        observations = subst (λ c. (j : ℕ) (u : Log) → get_elem? (set views id w) j ≡ some u → ObservationsHold t (record m { loader = x }) r.memory.history (c + 1) r.memory.shadow u) (sym same)
            (after_step (λ _ u. ObservationsHold t (record m { loader = x }) r.memory.history (total (λ z. z.made) views + 1) r.memory.shadow u) views id w (over_loader w mine) (λ j u _ there. over_loader u (r.memory.observations j u there)));
      }
    where
      over_loader : (u : Log) → ObservationsHold t m r.memory.history (total (λ z. z.made) views + 1) r.memory.shadow u → ObservationsHold t (record m { loader = x }) r.memory.history (total (λ z. z.made) views + 1) r.memory.shadow u
      over_loader u o = record { sights = o.sights; copies = o.copies; full = o.full; earlier = o.earlier }

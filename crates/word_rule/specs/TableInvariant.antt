-- The table's invariant: what holds of all words and of all logs between any two steps. Its parts
-- stand in Callers, Nodes, Copies and Observations.
use Rattle.std.specs.Prelude.{◌≡◌, ℕ, ◌+◌, List, length, slice_index}
use Rattle.std.specs.List.{AllByRecursion}
use mathlib.Core.Option.{some}
use lib.ListN.{get_elem?}
use Rattle.reg_model.specs.declared.answer.Update.{Update}
use Rattle.word_rule.specs.declared.log.Terms.{Terms}
use Rattle.word_rule.specs.declared.log.Log.{Log}
use Rattle.word_rule.specs.Places.{word_count}
use Rattle.word_rule.specs.SharedWords.{SharedWords, memory_of}
use Rattle.word_rule.specs.Logs.{turns}
use Rattle.word_rule.specs.Callers.{total, CallersHold, IsAlone}
use Rattle.word_rule.specs.Nodes.{Shadow, NodesHold}
use Rattle.word_rule.specs.Copies.{ActiveCopy}
use Rattle.word_rule.specs.Observations.{ObservationsHold}

-- There is one history, the same for all.
pub record MemoryHolds (t : Terms) (m : SharedWords) (views : List Log) : Type 0 where
  pub history : List Update
  pub callers : CallersHold t m views history
  pub shadow : Shadow
  pub nodes : NodesHold t m.nodes views history shadow
  pub active : ActiveCopy t m.clock m.copies history
  pub observations : (id : ℕ) (v : Log) → get_elem? views id ≡ some v
      → ObservationsHold t m history (total (λ w. w.made) views + 1) shadow v

-- Where nobody else can step, a word that was loaded since the last turn is still as it was found.
abbrev pub IsStill : List ℕ → Log → Type 0
IsStill words v = AllByRecursion
    (λ l. l.turns ≡ turns v.trace → slice_index words l.word ≡ l.found) v.trace.loads

pub record TableInvariant (t : Terms) (words : List ℕ) (views : List Log) : Type 0 where
  pub wide : length words ≡ word_count t
  pub memory : MemoryHolds t (memory_of t words) views
  pub alone : (id : ℕ) (v : Log) → get_elem? views id ≡ some v → IsAlone v.lineage → IsStill words v

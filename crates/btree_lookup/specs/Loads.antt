-- What loads alone make of a caller's log.
use Rattle.std.specs.Prelude.{ℕ, ◌+◌, List, ◌++◌, map}
use Rattle.reg_model.specs.declared.answer.Receipt.{Receipt}
use Rattle.reg_model.specs.declared.answer.Update.{Update}
use Rattle.word_rule.specs.declared.log.LoadEvent.{LoadEvent}
use Rattle.word_rule.specs.declared.log.LoadedWord.{LoadedWord}
use Rattle.word_rule.specs.declared.log.Log.{Log}
use Rattle.word_rule.specs.declared.log.Sights.{Sights}
use Rattle.word_rule.specs.Logs.{load_of}
use Rattle.word_rule.specs.Places.{node_place}

-- a word of the table that was loaded, and that of a node
abbrev pub loaded_at : ℕ → ℕ → LoadedWord
loaded_at place value = record { at = place; value = value }

abbrev pub loaded_of : ℕ → ℕ → ℕ → LoadedWord
loaded_of n at value = loaded_at (node_place n + at) value

-- the loads of these words of the table, with what the caller has
abbrev pub load_events : Log → List LoadedWord → List LoadEvent
load_events v loaded = map (λ w. load_of v w.at w.value) loaded

-- A log after these loads, at the end of which this much is seen, with these sights, and with
-- receipts. Nothing else has changed.
abbrev pub after_try : List LoadedWord → List Update → Sights → List Receipt → Log → Log
after_try loaded past sights receipts v = record v {
  past = past;
  trace = record v.trace { loads = v.trace.loads ++ load_events v loaded };
  sights = sights;
  receipts = record v.receipts { own = v.receipts.own ++ receipts };
}

-- the same before the clock is loaded: nothing more is seen, and there are no receipts
abbrev pub after_looks : List LoadedWord → Sights → Log → Log
after_looks loaded sights v = record v {
  trace = record v.trace { loads = v.trace.loads ++ load_events v loaded };
  sights = sights;
}

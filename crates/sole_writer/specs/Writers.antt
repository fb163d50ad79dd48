-- A registry that one caller alone updates, and what its calls do.
use Rattle.std.specs.Prelude.{◌≡◌, ◌+◌, ◌-◌, Bool, true, false, List, [], ◌∷◌, ◌++◌, length, All}
use Rattle.reg_model.specs.History.{IsHistory, state_after}
use Rattle.reg_model.specs.PlainRegistryData.{PlainRegistryData, Step}
use Rattle.reg_model.specs.Receipt.{made}
use Rattle.reg_model.specs.SpanData.{IsSpan}
use Rattle.reg_model.specs.declared.answer.Receipt.{Receipt}
use Rattle.reg_model.specs.declared.answer.Update.{Update}
use Rattle.reg_model.specs.declared.answer.Update.TheVariants.{Register, Deregister, Replace}
use Rattle.reg_model.specs.declared.answer.Update.TheVariants.{Load, Unload}
use Rattle.word_rule.specs.CallerData.{CallerData, WordsData}
use Rattle.word_rule.specs.Callers.{IsAlone, IsIdle, start}
use Rattle.word_rule.specs.Places.{ALLOWANCE}
use Rattle.word_rule.specs.declared.log.Terms.{Terms}
use Rattle.version_locks.specs.declared.locking.Busy.{Busy}
use Rattle.version_locks.specs.Locking.{FoundBusy}

-- what contracts see of a writer: the words, its caller, and whether it was stopped
pub record WriterData : Type 0 where
  pub words : WordsData
  pub me : CallerData
  pub stuck : Bool

-- a registry over plain lists after these updates
abbrev pub plain_registry_after : Terms → List Update → PlainRegistryData
plain_registry_after t past = record { state = state_after (start t) past; updates = length past }

-- the writer's registry, as one over plain lists
abbrev pub plain_registry : WriterData → PlainRegistryData
plain_registry w = plain_registry_after w.words.terms w.me.log.past

-- what the update adds has a span
abbrev pub AddsSpan : Update → Type 0
AddsSpan (Register m) = IsSpan m.span
AddsSpan (Replace m) = IsSpan m.span
AddsSpan (Load m) = IsSpan m.span
AddsSpan (Deregister base) = Unit {0}
AddsSpan (Unload base) = Unit {0}

-- Between two calls: its caller steps on these words, is the only one that there is, and may make
-- all updates that were not made yet; so it has seen all that there were. They are a history from
-- an empty registry. It holds no lock, unless it was stopped.
pub record IsWriter (w : WriterData) : Type 0 where
  pub home : w.me.table ≡ w.words.table
  pub terms : w.me.log.terms ≡ w.words.terms
  pub empty : w.words.terms.fixed ≡ []
  pub alone : IsAlone w.me.log.lineage
  pub sole : length w.me.log.past + w.me.log.budget.allowance ≡ ALLOWANCE
  pub lawful : IsHistory (start w.words.terms) w.me.log.past
  pub spans : All AddsSpan w.me.log.past
  pub idle : w.stuck ≡ false → IsIdle w.me.log

-- its caller once an update call is begun
abbrev pub begun_call : WriterData → CallerData
begun_call w = record w.me { left = w.me.left - 1 }

-- A call was answered with this receipt, as a registry over plain lists answers it. It took one
-- update call.
pub record WriterAnswers (r : Receipt) (w w' : WriterData) : Type 0 where
  pub step : Step (plain_registry w) r (plain_registry w')
  pub past : w'.me.log.past ≡ w.me.log.past ++ made r
  pub own : w'.me.log.receipts.own ≡ w.me.log.receipts.own ++ r ∷ []
  pub left : w.me.left ≡ w'.me.left + 1
  pub words : w'.words ≡ w.words
  pub free : w'.stuck ≡ false

-- A call found a lock taken, or the free list changed under it, as its loads show: nothing was
-- accepted, and the writer is stopped.
pub record WriterStops (why : Busy) (w w' : WriterData) : Type 0 where
  pub cause : FoundBusy why (begun_call w) w'.me
  pub past : w'.me.log.past ≡ w.me.log.past
  pub own : w'.me.log.receipts.own ≡ w.me.log.receipts.own
  pub left : w.me.left ≡ w'.me.left + 1
  pub words : w'.words ≡ w.words
  pub stopped : w'.stuck ≡ true

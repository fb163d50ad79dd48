-- What the program writes, and when it ends how.
use Rattle.std.specs.Prelude.{◌≡◌, ◌≢◌, ℕ, ◌<◌, ◌≤◌, List, ◌++◌, length, Option, Some, None, IfSome}
use Rattle.std.specs.Prelude.{All, slice_get, codes}
use Rattle.std.specs.Fmt.{decimal}
use Rattle.reg_model.specs.PlainRegistryData.{PlainRegistryData}
use Rattle.unwind_step.specs.Finders.{IsPlainPlace}
use Rattle.script_text.specs.ScriptData.{ScriptData, SnapshotData}
use Rattle.script_text.specs.Spelling.{IsScript}
use Rattle.event_script.specs.RefusalText.{IsRefusal}
use Rattle.script_text.specs.Lawful.{start_of}
use Rattle.raise_phases.specs.Raising.{RaisedData, RaiseUnfolds, EndsChanged}
use Rattle.raise_phases.specs.Raising.{lines_of}
use Rattle.run_ports.specs.Endings.{Change, EndsWith, too_long_line}
use Rattle.run_ports.specs.declared.reading.TheConstants.{SCRIPT_LIMIT}
use Rattle.raise_run.specs.Words.{request_of}
use Rattle.raise_run.specs.RaiseText.{raised_text}
use Rattle.raise_run.specs.RaiseStatuses.{raise_ending_of}
use Rattle.raise_run.specs.declared.words.RaiseRequest.{RaiseRequest}
use Rattle.raise_run.specs.declared.status.RaiseStatus.{RaiseStatus}
use Rattle.raise_run.specs.declared.status.RaiseStatus.TheVariants.{Done, Usage, Script, TooLong}
use Rattle.raise_run.specs.declared.status.RaiseStatus.TheVariants.{NoSnapshot}

abbrev pub raise_usage_line : List ℕ
raise_usage_line = codes "usage: raise_main SNAPSHOT KIND\n"

abbrev pub no_snapshot_line : ℕ → List ℕ
no_snapshot_line number = codes "no snapshot " ++ decimal number ++ codes "\n"

-- the source's bytes spell the script, where it tells them, and are no more than are taken
abbrev pub SpellsScript : Option (List ℕ) → ScriptData → Type 0
SpellsScript input script =
    IfSome input (λ bytes. (length bytes ≤ SCRIPT_LIMIT) × IsScript bytes script)

-- the registry in which a script's stacks are raised: the fixed images alone, and no update
abbrev pub fixed_registry : ScriptData → PlainRegistryData
fixed_registry script = record { state = start_of script; updates = 0 }

-- A raise of a kind over a snapshot of a script: it unfolds from the snapshot and the images'
-- sections, and each place is right of the fixed images, with the stamp 0. It doesn't end as
-- changed, since nothing changes the fixed images.
pub record IsRaise (script : ScriptData) (request : RaiseRequest)
    (raised : RaisedData) : Type 0 where
  pub snapshot : SnapshotData
  pub named : slice_get script.snapshots request.snapshot ≡ Some snapshot
  pub unfolds : RaiseUnfolds script.sections snapshot.memory snapshot.regs request.kind raised
  pub right : All (λ line. IsPlainPlace (fixed_registry script) line.look line.place)
      (lines_of raised.search ++ lines_of raised.cleanup)
  pub unchanged : ¬ EndsChanged raised.end

-- The text is that of a raise over a script, the one that the source's bytes spell.
pub record IsRaiseAnswer (input : Option (List ℕ)) (request : RaiseRequest)
    (text : List ℕ) : Type 0 where
  pub script : ScriptData
  pub raised : RaisedData
  pub spelled : SpellsScript input script
  pub is_raise : IsRaise script request raised
  pub text_is : text ≡ raised_text raised

-- The text tells that the script hasn't that snapshot.
pub record IsWithoutSnapshot (input : Option (List ℕ)) (number : ℕ) (text : List ℕ) : Type 0 where
  pub script : ScriptData
  pub spelled : SpellsScript input script
  pub absent : length script.snapshots ≤ number
  pub text_is : text ≡ no_snapshot_line number

-- What is due to be written with a status, from what the words request and the bytes of the source.
abbrev pub IsDueOf : RaiseRequest → Option (List ℕ) → RaiseStatus → List ℕ → Type 0
IsDueOf request input Done text = IsRaiseAnswer input request text
IsDueOf request input TooLong text =
    IfSome input (λ bytes. SCRIPT_LIMIT < length bytes) × (text ≡ too_long_line)
IsDueOf request input Script text = IsRefusal SCRIPT_LIMIT input text
IsDueOf request input NoSnapshot text = IsWithoutSnapshot input request.snapshot text
IsDueOf request input _ text = ⊥

-- What is due to be written with a status, from these words and the bytes of the source.
abbrev pub IsRaiseDue : List (List ℕ) → Option (List ℕ) → RaiseStatus → List ℕ → Type 0
IsRaiseDue words input Usage text = (request_of words ≡ None) × (text ≡ raise_usage_line)
IsRaiseDue words input status text =
    (request : RaiseRequest) × (request_of words ≡ Some request) × IsDueOf request input status text

-- how the program may end with these words and this input
abbrev pub RaiseEnds : List (List ℕ) → Option (List ℕ) → Change → RaiseStatus → Type 0
RaiseEnds words input change status =
    EndsWith (IsRaiseDue words input) (request_of words ≢ None) change status
    (raise_ending_of status)

-- how it may end where the words ask for this
abbrev pub RaiseEndsOf : RaiseRequest → Option (List ℕ) → Change → RaiseStatus → Type 0
RaiseEndsOf request input change status =
    EndsWith (IsDueOf request input) (Unit {0}) change status (raise_ending_of status)

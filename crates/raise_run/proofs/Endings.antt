-- How the program ends.
use Rattle.std.proofs.Common.{◌≡◌, ◌⊎◌, ℕ, ◌<◌, ◌≤◌, List, length, Option, Some, None, IfSome, refl, sym, ap, ◌∙◌, inl, inr, arith}
use Rattle.script_text.specs.ScriptData.{ScriptData}
use Rattle.script_text.specs.Spelling.{IsScript}
use Rattle.event_script.specs.Refusal.{HasOneReading}
use Rattle.run_ports.specs.Endings.{Change, WritesPart}
use Rattle.run_ports.specs.Ports.{Rose}
use Rattle.run_ports.specs.declared.reading.TheConstants.{SCRIPT_LIMIT}
use Rattle.raise_run.specs.RaiseOutcome.{IsDueOf, IsRaiseDue, RaiseEnds, RaiseEndsOf}
use Rattle.run_ports.specs.declared.status.Ending.TheVariants as ending
use Rattle.raise_run.specs.RaiseStatuses.{raise_ending_of}
use Rattle.raise_run.specs.Words.{request_of}
use Rattle.raise_run.specs.declared.words.RaiseRequest.{RaiseRequest}
use Rattle.raise_run.specs.declared.status.RaiseStatus.{RaiseStatus}
use Rattle.raise_run.specs.declared.status.RaiseStatus.TheVariants.{Done, Usage, Script, ReadFault, WriteFault, NoMemory, TooLong, NoSnapshot}

-- only WriteFault says that a write failed
pub raise_write_told : (status : RaiseStatus) → raise_ending_of status ≡ ending.WriteFault → status ≡ WriteFault
raise_write_told status is = grind arith

-- ---- the words ask for this

module _ (words : List (List ℕ)) (input : Option (List ℕ)) (request : RaiseRequest) (is : request_of words ≡ Some request) where
  due_of : (status : RaiseStatus) (text : List ℕ) → IsDueOf request input status text → IsRaiseDue words input status text
  due_of Done text due = (request, is, due)
  due_of Script text due = (request, is, due)
  due_of TooLong text due = (request, is, due)
  due_of NoSnapshot text due = (request, is, due)
  due_of Usage text due = absurd due
  due_of ReadFault text due = absurd due
  due_of WriteFault text due = absurd due
  due_of NoMemory text due = absurd due

  part_of : (old new : Option (List ℕ)) → WritesPart (IsDueOf request input) old new → WritesPart (IsRaiseDue words input) old new
  part_of old new (inl same) = inl same
  part_of old new (inr (status, text, due, gains)) = inr (status, text, due_of status text due, gains)

  pub ends_of : (change : Change) (end : RaiseStatus) → RaiseEndsOf request input change end → RaiseEnds words input change end
  ends_of change Done (text, due, gains) = (text, (request, is, due), gains)
  ends_of change Script (text, due, gains) = (text, (request, is, due), gains)
  ends_of change TooLong (text, due, gains) = (text, (request, is, due), gains)
  ends_of change NoSnapshot (text, due, gains) = (text, (request, is, due), gains)
  ends_of change Usage (text, due, gains) = absurd due
  ends_of change ReadFault (asked, rose, same) = (λ other. (let both : Some request ≡ None = sym is ∙ other in cc), rose, same)
  ends_of change WriteFault (rose, part) = (rose, part_of change.held change.held_after part)
  ends_of change NoMemory part = part_of change.held change.held_after part

-- ---- a script that can be read and has the snapshot is raised in

module _ (one_answer : (bytes : List ℕ) → HasOneReading bytes) (words : List (List ℕ)) (request : RaiseRequest) (is : request_of words ≡ Some request) (change : Change) where
  raised_with : (bytes : List ℕ) (end : RaiseStatus) → RaiseEnds words (Some bytes) change end → length bytes ≤ SCRIPT_LIMIT → (script : ScriptData) → IsScript bytes script → request.snapshot < length script.snapshots → ¬ Rose change.reads change.reads_after → ¬ Rose change.writes change.writes_after → (end ≡ Done) ⊎ (end ≡ NoMemory)
  raised_with bytes Done ends short script spelled named reads writes = inl refl
  raised_with bytes NoMemory ends short script spelled named reads writes = inr refl
  raised_with bytes Usage (text, due, gains) short script spelled named reads writes = absurd (let other : Some request ≡ None = sym is ∙ due.0 in cc)
  raised_with bytes TooLong (text, (other, known, due), gains) short script spelled named reads writes = absurd (let long = due.0 in omega arith)
  raised_with bytes Script (text, (other, known, due), gains) short script spelled named reads writes =
      absurd ((one_answer bytes).never_both script due.line due.reason spelled due.first.1)
  raised_with bytes NoSnapshot (text, (other, known, due), gains) short script spelled named reads writes =
      let same : due.script ≡ script = (one_answer bytes).one_script due.script script due.spelled.1 spelled in
      let count : length due.script.snapshots ≡ length script.snapshots = ap (λ (s : ScriptData). length s.snapshots) same in
      let requested : Some other ≡ Some request = sym known ∙ is in
      let number : other.snapshot ≡ request.snapshot = (let one : other ≡ request = cc in ap (λ (r : RaiseRequest). r.snapshot) one) in
      absurd (omega (arith, count, number, due.absent, named))
  raised_with bytes ReadFault ends short script spelled named reads writes = absurd (reads ends.1)
  raised_with bytes WriteFault ends short script spelled named reads writes = absurd (writes ends.0)

  pub raise_complete : (input : Option (List ℕ)) (end : RaiseStatus) → RaiseEnds words input change end → IfSome input (λ bytes. length bytes ≤ SCRIPT_LIMIT → (script : ScriptData) → IsScript bytes script → request.snapshot < length script.snapshots → ¬ Rose change.reads change.reads_after → ¬ Rose change.writes change.writes_after → (end ≡ Done) ⊎ (end ≡ NoMemory))
  raise_complete None end ends = tt
  raise_complete (Some bytes) end ends = raised_with bytes end ends

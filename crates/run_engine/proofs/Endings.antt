-- How runs end.
use Rattle.std.proofs.Common.{◌≡◌, ◌⊎◌, ℕ, ◌≤◌, List, length, Option, Some, None, IfSome, refl, sym, ap, ◌∙◌, subst, inl, inr, arith}
use Rattle.script_text.specs.JournalData.{JournalData}
use Rattle.script_text.specs.Lawful.{IsLawfulJournal}
use Rattle.script_text.specs.ScriptData.{ScriptData}
use Rattle.script_text.specs.Spelling.{IsScript}
use Rattle.event_script.specs.Refusal.{HasOneReading}
use Rattle.script_text.specs.Text.{journal_text}
use Rattle.command_line.specs.CommandLine.{IsCommandLine}
use Rattle.command_line.specs.declared.taking.Command.TheVariants.{Run, Generate}
use Rattle.run_ports.specs.Endings.{Change}
use Rattle.run_ports.specs.Ports.{Rose}
use Rattle.run_ports.specs.declared.status.Ending.TheVariants as ending
use Rattle.run_ports.proofs.Pieces.{IfSome-same}
use Rattle.run_engine.specs.Outcome.{Ends, EndsGenerated, IsDue}
use Rattle.run_engine.specs.Statuses.{ending_of}
use Rattle.run_ports.specs.declared.reading.TheConstants.{SCRIPT_LIMIT}
use Rattle.run_engine.specs.declared.status.Status.{Status}
use Rattle.run_engine.specs.declared.status.Status.TheVariants.{Done, Usage, Script, ReadFault, WriteFault, NoMemory, TooLong}

-- only WriteFault says that a write failed
pub write_told : (status : Status) → ending_of status ≡ ending.WriteFault → status ≡ WriteFault
write_told WriteFault is = refl
write_told Done is = absurd cc
write_told Usage is = absurd cc
write_told Script is = absurd cc
write_told TooLong is = absurd cc
write_told ReadFault is = absurd cc
write_told NoMemory is = absurd cc

-- The text of a lawful journal is due where the bytes that came spell its script.
pub journal_due : (words : List (List ℕ)) (input : Option (List ℕ)) (bytes : List ℕ) (script : ScriptData) (journal : JournalData) → IsCommandLine words Run → (length bytes ≤ SCRIPT_LIMIT) × IfSome input (λ had. had ≡ bytes) → IsScript bytes script → IsLawfulJournal script journal → IsDue words input Done (journal_text journal)
journal_due words input bytes script journal is came spelled lawful = (
  Run,
  is,
  record {
    script = script;
    journal = journal;
    spelled = IfSome-same input bytes (λ had. (length had ≤ SCRIPT_LIMIT) × IsScript had script) came.1 (came.0, spelled);
    lawful = lawful;
    text_is = refl;
  },
)

-- A status that has been told is no other one.
pub ends_at : (words : List (List ℕ)) (input : Option (List ℕ)) (change : Change) (end status : Status) → Ends words input change end → end ≡ status → Ends words input change status
ends_at words input change end status ends is = (let P : Status → Type 0 = Ends words input change in subst P is ends)

-- A script that can be read and written is run: bytes that spell one have no first bad line.
complete_with : ((bytes : List ℕ) → HasOneReading bytes) → (words : List (List ℕ)) (bytes : List ℕ) (change : Change) (end : Status) → Ends words (Some bytes) change end → IsCommandLine words Run → length bytes ≤ SCRIPT_LIMIT → (script : ScriptData) → IsScript bytes script → ¬ Rose change.reads change.reads_after → ¬ Rose change.writes change.writes_after → (end ≡ Done) ⊎ (end ≡ NoMemory)
complete_with one_answer words bytes change Done ends taken short script spelled reads writes = inl refl
complete_with one_answer words bytes change NoMemory ends taken short script spelled reads writes = inr refl
complete_with one_answer words bytes change Usage (text, due, gains) taken short script spelled reads writes = absurd (due.0 (Run, taken))
complete_with one_answer words bytes change TooLong (text, due, gains) taken short script spelled reads writes = absurd (let long = due.1 in omega arith)
complete_with one_answer words bytes change Script (text, due, gains) taken short script spelled reads writes =
    absurd ((one_answer bytes).never_both script due.1.line due.1.reason spelled due.1.first.1)
complete_with one_answer words bytes change ReadFault ends taken short script spelled reads writes = absurd (reads ends.1)
complete_with one_answer words bytes change WriteFault ends taken short script spelled reads writes = absurd (writes ends.0)

pub ends_complete : ((bytes : List ℕ) → HasOneReading bytes) → (words : List (List ℕ)) (input : Option (List ℕ)) (change : Change) (end : Status) → Ends words input change end → IsCommandLine words Run → IfSome input (λ bytes. length bytes ≤ SCRIPT_LIMIT → (script : ScriptData) → IsScript bytes script → ¬ Rose change.reads change.reads_after → ¬ Rose change.writes change.writes_after → (end ≡ Done) ⊎ (end ≡ NoMemory))
ends_complete one_answer words None change end ends taken = tt
ends_complete one_answer words (Some bytes) change end ends taken = complete_with one_answer words bytes change end ends taken

-- ---- the generated script

-- words are those of one command
not_both : (words : List (List ℕ)) (count : ℕ) → IsCommandLine words Run → IsCommandLine words (Generate count) → ⊥
not_both words count run (word, is, number) =
    (let two : 1 ≡ 2 = sym (ap length run) ∙ ap length is in absurd (omega (arith, two)))

-- a run of the generated script is the run of words that ask for it
pub ends_generated : (words : List (List ℕ)) (input : Option (List ℕ)) (change part : Change) (count : ℕ) (status : Status) → IsCommandLine words (Generate count) → change.writes ≡ part.writes → change.writes_after ≡ part.writes_after → change.held ≡ part.held → change.held_after ≡ part.held_after → EndsGenerated count part status → Ends words input change status
ends_generated words input change part count Done is w0 w1 h0 h1 (text, answer, gains) = rw (h0, h1) (text, (Generate count, is, answer), gains)
ends_generated words input change part count WriteFault is w0 w1 h0 h1 (rose, (text, answer, gains)) = rw (w0, w1, h0, h1) (rose, inr (Done, text, (Generate count, is, answer), gains))
ends_generated words input change part count NoMemory is w0 w1 h0 h1 (inl same) = inl (h1 ∙ same ∙ sym h0)
ends_generated words input change part count NoMemory is w0 w1 h0 h1 (inr (text, answer, gains)) = rw (h0, h1) (inr (Done, text, (Generate count, is, answer), gains))
ends_generated words input change part count Usage is w0 w1 h0 h1 ends = absurd ends
ends_generated words input change part count Script is w0 w1 h0 h1 ends = absurd ends
ends_generated words input change part count ReadFault is w0 w1 h0 h1 ends = absurd ends
ends_generated words input change part count TooLong is w0 w1 h0 h1 ends = absurd ends

-- where it can be written it is done, unless memory is wanted
pub ends_complete_generated : (words : List (List ℕ)) (input : Option (List ℕ)) (change : Change) (count : ℕ) (end : Status) → Ends words input change end → IsCommandLine words (Generate count) → ¬ Rose change.writes change.writes_after → (end ≡ Done) ⊎ (end ≡ NoMemory)
ends_complete_generated words input change count Done ends is writes = inl refl
ends_complete_generated words input change count NoMemory ends is writes = inr refl
ends_complete_generated words input change count Usage (text, due, gains) is writes = absurd (due.0 (Generate count, is))
ends_complete_generated words input change count TooLong (text, due, gains) is writes = absurd (not_both words count due.0 is)
ends_complete_generated words input change count Script (text, due, gains) is writes = absurd (not_both words count due.0 is)
ends_complete_generated words input change count ReadFault ends is writes = absurd (not_both words count ends.0 is)
ends_complete_generated words input change count WriteFault ends is writes = absurd (writes ends.0)

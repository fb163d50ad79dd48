-- What a run writes, and when it ends how.
use Rattle.std.specs.Prelude.{◌≡◌, ◌⊎◌, ℕ, ◌<◌, ◌≤◌, List, length, Option, IfSome, codes}
use Rattle.script_text.specs.ScriptData.{ScriptData}
use Rattle.script_text.specs.Spelling.{IsScript}
use Rattle.event_script.specs.RefusalText.{IsRefusal}
use Rattle.script_text.specs.JournalData.{JournalData}
use Rattle.script_text.specs.Lawful.{IsLawfulJournal}
use Rattle.script_text.specs.Text.{journal_text}
use Rattle.script_generator.specs.Generator.{IsGenerated}
use Rattle.script_generator.specs.Summaries.{summary_of, summary_text}
use Rattle.command_line.specs.CommandLine.{IsCommandLine, AreTaken}
use Rattle.command_line.specs.declared.taking.Command.{Command}
use Rattle.command_line.specs.declared.taking.Command.TheVariants.{Run, Generate}
use Rattle.run_ports.specs.Endings.{Change, EndsWith, too_long_line}
use Rattle.run_ports.specs.Ports.{Rose, Gains, GainsPart}
use Rattle.run_ports.specs.declared.reading.TheConstants.{SCRIPT_LIMIT}
use Rattle.run_engine.specs.Statuses.{ending_of}
use Rattle.run_engine.specs.declared.status.Status.{Status}
use Rattle.run_engine.specs.declared.status.Status.TheVariants.{Done, Usage, Script}
use Rattle.run_engine.specs.declared.status.Status.TheVariants.{WriteFault, NoMemory, TooLong}

abbrev pub usage_line : List ℕ
usage_line = codes "usage: unwind_main run | unwind_main gen N\n"

-- The text is that of a lawful journal of a script, the one that the source's bytes spell, where it
-- tells them.
pub record IsAnswer (input : Option (List ℕ)) (text : List ℕ) : Type 0 where
  pub script : ScriptData
  pub journal : JournalData
  pub spelled : IfSome input (λ bytes. (length bytes ≤ SCRIPT_LIMIT) × IsScript bytes script)
  pub lawful : IsLawfulJournal script journal
  pub text_is : text ≡ journal_text journal

-- The text is the summary of a lawful journal of the script that is generated for so many images a
-- thread.
pub record IsGeneratedAnswer (count : ℕ) (text : List ℕ) : Type 0 where
  pub script : ScriptData
  pub journal : JournalData
  pub generated : IsGenerated count script
  pub lawful : IsLawfulJournal script journal
  pub text_is : text ≡ summary_text (summary_of journal)

-- the text that a command writes when it is done; the source is read for `run` alone
abbrev pub IsCommandText : Command → Option (List ℕ) → List ℕ → Type 0
IsCommandText Run input text = IsAnswer input text
IsCommandText (Generate count) input text = IsGeneratedAnswer count text

-- What is due to be written with a status, from these words and the bytes of the source.
abbrev pub IsDue : List (List ℕ) → Option (List ℕ) → Status → List ℕ → Type 0
IsDue words input Done text =
    (command : Command) × IsCommandLine words command × IsCommandText command input text
IsDue words input Usage text = (¬ AreTaken words) × (text ≡ usage_line)
IsDue words input TooLong text =
    IsCommandLine words Run × IfSome input (λ bytes. SCRIPT_LIMIT < length bytes)
    × (text ≡ too_long_line)
IsDue words input Script text = IsCommandLine words Run × IsRefusal SCRIPT_LIMIT input text
IsDue words input _ text = ⊥

-- how a run with these words and this input may end
abbrev pub Ends : List (List ℕ) → Option (List ℕ) → Change → Status → Type 0
Ends words input change status =
    EndsWith (IsDue words input) (IsCommandLine words Run) change status (ending_of status)

-- how a run of the generated script may end
abbrev pub EndsGenerated : ℕ → Change → Status → Type 0
EndsGenerated count change Done =
    (text : List ℕ) × IsGeneratedAnswer count text × Gains change.held change.held_after text
EndsGenerated count change WriteFault = Rose change.writes change.writes_after
    × ((text : List ℕ) × IsGeneratedAnswer count text
    × GainsPart change.held change.held_after text)
EndsGenerated count change NoMemory =
    (change.held_after ≡ change.held)
    ⊎ ((text : List ℕ) × IsGeneratedAnswer count text
    × GainsPart change.held change.held_after text)
EndsGenerated count change _ = ⊥

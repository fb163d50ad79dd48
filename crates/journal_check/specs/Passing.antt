-- A journal's answers are gone through, one after another.
use Rattle.std.specs.Prelude.{◌≡◌, ℕ, ◌+◌, List, length, Result, Ok, Err, All, sum_by}
use Rattle.script_text.specs.ScriptData.{ScriptData}
use Rattle.script_text.specs.Lawful.{IsUnfolded}
use Rattle.script_text.specs.Text.{answer_lines}
use Rattle.script_text.specs.declared.journal.Answer.{Answer}
use Rattle.journal_check.specs.TextFlaws.{DepartsFirst}
use Rattle.journal_check.specs.declared.traces.Stopped.{Stopped}
use Rattle.journal_check.specs.declared.traces.Stopped.TheVariants.{Departs, NoMemory}

-- how many lines the text has for some answers
abbrev pub text_lines : List Answer → ℕ
text_lines answers = sum_by (λ answer. length (answer_lines answer)) answers

-- Of answers that are told from one line on, all backtraces unfold, and a next line follows them;
-- or the first one that doesn't leaves the rules at a line.
abbrev pub IsPassed : ScriptData → List Answer → ℕ → Result ℕ Stopped → Type 0
IsPassed script answers first (Ok next) =
    All (IsUnfolded script.sections script.snapshots) answers × (next ≡ first + text_lines answers)
IsPassed script answers first (Err (Departs line)) = DepartsFirst script answers first line
IsPassed script answers first (Err NoMemory) = Unit {0}

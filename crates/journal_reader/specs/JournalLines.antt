-- The lines of a journal's text, each without its line feed.
use Rattle.std.specs.Prelude.{ℕ, ◌+◌, List, [], ◌∷◌, ◌++◌, map, codes, decimal}
use Rattle.script_text.specs.JournalData.{JournalData}
use Rattle.script_text.specs.Text.{event_number, answer_lines}
use Rattle.script_text.specs.declared.journal.Answer.{Answer}

-- a line of an event, after its number
abbrev pub line_at : ℕ → ℕ → ℕ → List ℕ → List ℕ
line_at round thread event line = event_number round thread event ++ codes " " ++ line

abbrev pub event_lines : ℕ → ℕ → ℕ → Answer → List (List ℕ)
event_lines round thread event answer = map (line_at round thread event) (answer_lines answer)

-- the lines of each item, which are numbered upwards, one after another
abbrev pub numbered_lines : {X : Type 0} → (ℕ → X → List (List ℕ)) → ℕ → List X → List (List ℕ)
numbered_lines lines number [] = []
numbered_lines lines number (x ∷ xs) = lines number x ++ numbered_lines lines (number + 1) xs

abbrev pub thread_lines : ℕ → ℕ → List Answer → List (List ℕ)
thread_lines round thread answers = numbered_lines (event_lines round thread) 1 answers

abbrev pub round_lines : ℕ → List (List Answer) → List (List ℕ)
round_lines round threads = numbered_lines (thread_lines round) 1 threads

abbrev pub updates_line : ℕ → List ℕ
updates_line updates = codes "updates " ++ decimal updates

abbrev pub journal_lines : JournalData → List (List ℕ)
journal_lines journal =
    numbered_lines round_lines 1 journal.rounds ++ updates_line journal.updates ∷ []

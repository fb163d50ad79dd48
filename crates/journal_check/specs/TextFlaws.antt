-- What is wrong with a text: the first flaw that is found anywhere in it, and its line.
use Rattle.std.specs.Prelude.{◌≡◌, ◌⊎◌, ℕ, ◌+◌, List, [], ◌∷◌, length, MatchOption, slice_get}
use Rattle.std.specs.List.{flat_map}
use Rattle.script_text.specs.ScriptData.{ScriptData}
use Rattle.script_text.specs.JournalData.{JournalData}
use Rattle.script_text.specs.Lawful.{IsLawfulJournal, IsUnfolded}
use Rattle.script_text.specs.Text.{journal_text, answer_lines}
use Rattle.script_text.specs.declared.journal.Answer.{Answer}
use Rattle.script_text.specs.declared.journal.Answer.TheVariants.{Unwind}
use Rattle.journal_reader.specs.FormFlaw.{TellsJournal, FormFlaw}
use Rattle.trace_check.specs.Departures.{IsDeparture}
use Rattle.receipt_check.specs.Flaws.{IsFlawless, CountsFirst}
use Rattle.receipt_check.specs.declared.account.ReceiptFlaw as receipts
use Rattle.receipt_check.specs.declared.account.ReceiptFlaw.TheVariants as receipt_flaw
use Rattle.journal_check.specs.Telling.{account_of}
use Rattle.journal_check.specs.declared.verdict.Flaw.{Flaw}
use Rattle.journal_check.specs.declared.verdict.Flaw.TheVariants as flaw
use Rattle.journal_check.specs.declared.verdict.Verdict.{Verdict}
use Rattle.journal_check.specs.declared.verdict.Verdict.TheVariants.{Lawful, Line}

-- The text is that of a lawful journal of the script, with so many updates.
pub record IsLawfulText (script : ScriptData) (text : List ℕ) (updates : ℕ) : Type 0 where
  pub journal : JournalData
  pub lawful : IsLawfulJournal script journal
  pub spelled : journal_text journal ≡ text
  pub counted : journal.updates ≡ updates

-- ---- backtraces

-- The backtrace of an event that is told from one line on leaves the rules of frames at another: a
-- line for the event itself comes before those of the trace. Without its snapshot it is that one.
abbrev pub DepartsOn : ScriptData → Answer → ℕ → ℕ → Type 0
DepartsOn script (Unwind number trace) first line =
    MatchOption (slice_get script.snapshots number) (line ≡ first)
    (λ snapshot. (k : ℕ) × IsDeparture script.sections snapshot.memory snapshot.regs trace k
    × (line ≡ first + 1 + k))
DepartsOn script _ first line = ⊥

-- of answers that are told from one line on, the first backtrace that doesn't unfold leaves the
-- rules at another
abbrev pub DepartsFirst : ScriptData → List Answer → ℕ → ℕ → Type 0
DepartsFirst script [] first line = ⊥
DepartsFirst script (answer ∷ answers) first line =
    DepartsOn script answer first line
    ⊎ (IsUnfolded script.sections script.snapshots answer
    × DepartsFirst script answers (first + length (answer_lines answer)) line)

-- lists one after another
abbrev pub flattened : {X : Type 0} → List (List X) → List X
flattened lists = flat_map (λ xs. xs) lists

-- the answers of all rounds, in the order of the text
abbrev pub answers_of : List (List (List Answer)) → List Answer
answers_of rounds = flat_map (λ round. flattened round) rounds

-- the first backtrace of a journal that doesn't unfold leaves the rules at this line
abbrev pub IsTraceFlaw : ScriptData → JournalData → ℕ → Type 0
IsTraceFlaw script journal line = DepartsFirst script (answers_of journal.rounds) 1 line

-- ---- the table

-- the flaws of receipts among those of texts
abbrev pub text_flaw : receipts.ReceiptFlaw → Flaw
text_flaw receipt_flaw.Number = flaw.Number
text_flaw receipt_flaw.Count = flaw.Count
text_flaw receipt_flaw.History = flaw.History
text_flaw receipt_flaw.Answer = flaw.Answer
text_flaw receipt_flaw.Order = flaw.Order
text_flaw receipt_flaw.Round = flaw.Round

-- Of a journal that is told this flaw counts, and this is its line: the one that counts of its
-- receipts, and where nothing is wrong with these, that of its backtraces.
abbrev pub CountsOfTold : ScriptData → JournalData → ℕ → Flaw → Type 0
CountsOfTold script journal line which =
    ((found : receipts.ReceiptFlaw) × (which ≡ text_flaw found)
    × CountsFirst (account_of script journal) line found)
    ⊎ ((which ≡ flaw.Trace) × IsFlawless (account_of script journal)
    × IsTraceFlaw script journal line)

-- The first flaw of a text, and its line: its form where it tells no journal of the script, and
-- else what counts of the one that it tells.
abbrev pub IsFirstFlaw : ScriptData → List ℕ → ℕ → Flaw → Type 0
IsFirstFlaw script text line which =
    ((which ≡ flaw.Form) × FormFlaw script text line)
    ⊎ ((journal : JournalData) × TellsJournal script text journal
    × CountsOfTold script journal line which)

-- the verdict is right
abbrev pub IsVerdictOn : ScriptData → List ℕ → Verdict → Type 0
IsVerdictOn script text (Lawful updates) = IsLawfulText script text updates
IsVerdictOn script text (Line line which) = IsFirstFlaw script text line which

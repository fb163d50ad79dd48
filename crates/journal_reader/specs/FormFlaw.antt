-- The first line of a text that is bad.
use Rattle.std.specs.Prelude.{◌≡◌, ℕ, ◌+◌, List, [], ◌∷◌, ◌++◌, length}
use Rattle.script_text.specs.ScriptData.{ScriptData}
use Rattle.script_text.specs.JournalData.{JournalData}
use Rattle.script_text.specs.Text.{journal_text}
use Rattle.script_text.specs.Fields.{pieces}
use Rattle.script_text.specs.Fields.{lines_text}
use Rattle.journal_reader.specs.Told.{IsToldJournal}

-- the text is that of the journal
pub record TellsJournal (script : ScriptData) (text : List ℕ) (journal : JournalData) : Type 0 where
  pub told : IsToldJournal script journal
  pub spelled : journal_text journal ≡ text

-- some told journal's text begins with these lines
abbrev pub BeginsJournal : ScriptData → List (List ℕ) → Type 0
BeginsJournal script lines =
    (journal : JournalData) × (others : List ℕ) × IsToldJournal script journal
    × (journal_text journal ≡ lines_text lines ++ others)

-- A text was cut at its line feeds. With this line the ones before it begin no told journal's text;
-- or it is what follows the last line feed, and with it they are none.
abbrev pub IsBadAfter : ScriptData → List (List ℕ) → List ℕ → List (List ℕ) → Type 0
IsBadAfter script before line [] =
    (journal : JournalData) → TellsJournal script (lines_text before ++ line) journal → ⊥
IsBadAfter script before line (next ∷ others) = BeginsJournal script (before ++ line ∷ []) → ⊥

-- The line with this number, counted from 1, is the first bad one.
pub record FormFlaw (script : ScriptData) (text : List ℕ) (number : ℕ) : Type 0 where
  pub before : List (List ℕ)
  pub line : List ℕ
  pub others : List (List ℕ)
  pub cut : pieces 10 text ≡ before ++ line ∷ others
  pub counted : number ≡ length before + 1
  pub begun : BeginsJournal script before
  pub bad : IsBadAfter script before line others

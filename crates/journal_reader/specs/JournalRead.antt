-- What was read of a whole text.
use Rattle.std.specs.Prelude.{◌≡◌, ◌≢◌, ◌⊎◌, ℕ, List, [], ◌∷◌, ◌++◌, Option, Some, None}
use Rattle.script_text.specs.ScriptData.{ScriptData}
use Rattle.script_text.specs.JournalData.{JournalData}
use Rattle.journal_reader.specs.Told.{IsToldJournal}
use Rattle.journal_reader.specs.JournalLines.{journal_lines}
use Rattle.journal_reader.specs.ReadLines.{IsStuck}

-- a whole journal was read, and something follows it
pub record IsFollowed (script : ScriptData) (all left : List (List ℕ)) : Type 0 where
  pub journal : JournalData
  pub told : IsToldJournal script journal
  pub cut : all ≡ journal_lines journal ++ left
  pub more : left ≢ [] ∷ []

-- the journal with nothing after it; or the lines begin none, or something follows
abbrev pub ReadsJournal : ScriptData → List (List ℕ) → Option JournalData → List (List ℕ) → Type 0
ReadsJournal script all (Some journal) left =
    IsToldJournal script journal × (all ≡ journal_lines journal ++ [] ∷ [])
ReadsJournal script all None left =
    IsStuck (IsToldJournal script) journal_lines all left ⊎ IsFollowed script all left

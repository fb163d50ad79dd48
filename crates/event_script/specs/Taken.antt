-- Scripts whose bytes come piece after piece: what is known of those that came.
use Rattle.std.specs.Prelude.{◌≡◌, ℕ, ◌+◌, List, [], ◌∷◌, ◌++◌, length, Result, Ok, Err}
use Rattle.script_text.specs.Fields.{pieces}
use Rattle.event_script.specs.Draft.{DraftData, nothing_known}
use Rattle.event_script.specs.Refusal.{MakeKnown}
use Rattle.event_script.specs.Fault.{Tells, IsOfScript}
use Rattle.event_script.specs.declared.reader.fault.ScriptFault.{ScriptFault}

-- what good lines make known, and the line that goes on: its number, and its bytes so far
pub record LinesData : Type 0 where
  pub known : DraftData
  pub number : ℕ
  pub kept : List ℕ

-- the bytes are these good lines, and what is kept of the one that goes on
pub record AreLinesOf (bytes : List ℕ) (lines : LinesData) : Type 0 where
  pub before : List (List ℕ)
  pub cut : pieces 10 bytes ≡ before ++ lines.kept ∷ []
  pub good : MakeKnown nothing_known before lines.known
  pub counted : lines.number ≡ length before + 1

-- These bytes came: their lines are good so far, or the fault is told of them whatever follows.
abbrev pub HasTaken : List ℕ → Result LinesData ScriptFault → Type 0
HasTaken bytes (Ok lines) = AreLinesOf bytes lines
HasTaken bytes (Err fault) = ((rest : List ℕ) → Tells (bytes ++ rest) fault) × IsOfScript fault

-- The first bad line of a text.
use Rattle.std.specs.Prelude.{◌≡◌, ◌≢◌, ◌⊎◌, ℕ, ◌+◌, List, [], ◌∷◌, ◌++◌, length, true, false}
use Rattle.script_text.specs.ScriptData.{ScriptData, IsRunnable}
use Rattle.script_text.specs.Spelling.{script_text, IsScript}
use Rattle.script_text.specs.Fields.{pieces, lines_text}
use Rattle.event_script.specs.Draft.{DraftData, nothing_known, is_ended, with_statement}
use Rattle.event_script.specs.Reasons.{LineText, Says, IsReason, IsGood}
use Rattle.script_text.specs.declared.reason.Reason.{Reason}
use Rattle.script_text.specs.declared.statement.Statement.{Statement}

-- a line that a line feed ends
abbrev pub whole_line : List ℕ → LineText
whole_line bytes = record { bytes = bytes; has_feed = true }

-- what stands in the place of a line of a text that was cut at its line feeds: the last piece has
-- none
abbrev pub text_before : List (List ℕ) → List ℕ → LineText
text_before [] line = record { bytes = line; has_feed = false }
text_before (next ∷ others) line = whole_line line

-- a line must come here, or bytes do: what comes after the `end` line may be nothing
abbrev pub HasLineHere : DraftData → LineText → Type 0
HasLineHere known text =
    (is_ended known.stage ≡ false) ⊎ ((text.bytes ≢ []) ⊎ (text.has_feed ≡ true))

-- the lines are good, one after another, and make this known
abbrev pub MakeKnown : DraftData → List (List ℕ) → DraftData → Type 0
MakeKnown known [] last = known ≡ last
MakeKnown known (line ∷ lines) last =
    (s : Statement) × Says (whole_line line) s × IsGood known (whole_line line)
    × MakeKnown (with_statement known s) lines last

-- The line with this number, counted from 1, is the first bad one: no reason holds of a line before
-- it, and this is the first that holds of it, in what they make known.
pub record IsFirstBad (bytes : List ℕ) (number : ℕ) (why : Reason) : Type 0 where
  pub before : List (List ℕ)
  pub line : List ℕ
  pub others : List (List ℕ)
  pub known : DraftData
  pub cut : pieces 10 bytes ≡ before ++ line ∷ others
  pub counted : number ≡ length before + 1
  pub good : MakeKnown nothing_known before known
  pub due : HasLineHere known (text_before others line)
  pub bad : IsReason known (text_before others line) why

-- Bytes spell one script, or have one first bad line with one reason, and never both.
pub record HasOneReading (bytes : List ℕ) : Type 0 where
  pub some : ((s : ScriptData) × IsScript bytes s)
      ⊎ ((line : ℕ) × (why : Reason) × IsFirstBad bytes line why)
  pub one_script : (s t : ScriptData) → IsScript bytes s → IsScript bytes t → s ≡ t
  pub one_fault : (line other : ℕ) (why because : Reason) → IsFirstBad bytes line why
      → IsFirstBad bytes other because → (line ≡ other) × (why ≡ because)
  pub never_both : (s : ScriptData) (line : ℕ) (why : Reason) → IsScript bytes s
      → IsFirstBad bytes line why → ⊥

-- some script's text begins with these lines
abbrev pub BeginsScript : List (List ℕ) → Type 0
BeginsScript lines =
    (s : ScriptData) × (others : List ℕ) × IsRunnable s
    × (script_text s ≡ lines_text lines ++ others)

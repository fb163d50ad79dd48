-- The words of the command line, and the commands that they are.
use Rattle.std.specs.Prelude.{◌≡◌, ℕ, ◌≤◌, List, [], ◌∷◌, length, All, Option, Some, None, codes}
use Rattle.std.specs.Str.Parse.{digits_value}
use Rattle.command_line.specs.declared.count.TheConstants.{MOST_IMAGES}
use Rattle.command_line.specs.declared.taking.Command.{Command}
use Rattle.command_line.specs.declared.taking.Command.TheVariants.{Run, Generate}

-- a digit 0 to 9
abbrev pub IsDecimalDigit : ℕ → Type 0
IsDecimalDigit byte = (48 ≤ byte) × (byte ≤ 57)

-- one to three digits 0 to 9, whose number is from 1 to 500
pub record IsCount (word : List ℕ) (count : ℕ) : Type 0 where
  pub size : (1 ≤ length word) × (length word ≤ 3)
  pub digits : All IsDecimalDigit word
  pub number : digits_value 10 word ≡ count
  pub range : (1 ≤ count) × (count ≤ MOST_IMAGES)

-- the words, each as its bytes, are those of the command: `run`, or `gen` and such a number
abbrev pub IsCommandLine : List (List ℕ) → Command → Type 0
IsCommandLine words Run = words ≡ codes "run" ∷ []
IsCommandLine words (Generate count) =
    (word : List ℕ) × (words ≡ codes "gen" ∷ word ∷ []) × IsCount word count

-- the words are those of some command
abbrev pub AreTaken : List (List ℕ) → Type 0
AreTaken words = (command : Command) × IsCommandLine words command

-- which command the words are, or that they are none's
abbrev pub Decides : List (List ℕ) → Option Command → Type 0
Decides words (Some command) = IsCommandLine words command
Decides words None = ¬ AreTaken words

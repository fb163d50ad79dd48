-- The two parts of an input: a script, and the text of a journal.
use Rattle.std.specs.Prelude.{ℕ, ◌+◌, List, [], ◌∷◌, length, take, drop, codes, if◌then◌else◌}
use Rattle.std.specs.Str.{bytes_eq}
use Rattle.script_text.specs.Fields.{pieces}

-- How many bytes the script has that an input in lines begins with: those up to the first line
-- `end`, with its line feed, or all of them. What follows the last line feed is no line.
unfoldable pub script_length : List (List ℕ) → ℕ
script_length [] = 0
script_length (last ∷ []) = length last
script_length (line ∷ next ∷ others) =
    length line + 1 + (if bytes_eq line (codes "end") then 0 else script_length (next ∷ others))

-- the bytes of the script
abbrev pub script_part : List ℕ → List ℕ
script_part bytes = take (script_length (pieces 10 bytes)) bytes

-- and of the journal, which come after it
abbrev pub journal_part : List ℕ → List ℕ
journal_part bytes = drop (script_length (pieces 10 bytes)) bytes

-- Hexadecimal numbers as scripts and journals spell them.
use Rattle.std.specs.Prelude.{ℕ, List, false}
use Rattle.std.specs.Fmt.{digits}

-- a number in lower-case hexadecimal digits, without leading zeros
abbrev pub hex : ℕ → List ℕ
hex n = digits 16 false n

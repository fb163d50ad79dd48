-- Numbers and words at the front of a text.
use Rattle.std.specs.Prelude.{ℕ, List, [], ◌∷◌, ◌==◌, Option, Some, None, if◌then◌else◌, option_map}
use Rattle.script_text.specs.Fields.{decimal_in, hex_in}

-- what stands before the first space (32)
abbrev pub before_space : List ℕ → List ℕ
before_space [] = []
before_space (b ∷ bytes) = if b == 32 then [] else b ∷ before_space bytes

-- the first space, and what stands after it
abbrev pub from_space : List ℕ → List ℕ
from_space [] = []
from_space (b ∷ bytes) = if b == 32 then b ∷ bytes else from_space bytes

-- the decimal number below 2^32 that is spelled up to the first space, and what follows it
unfoldable pub decimal_first : List ℕ → Option (ℕ × List ℕ)
decimal_first bytes = option_map (λ n. (n, from_space bytes)) (decimal_in (before_space bytes))

-- the same of a hexadecimal number below 2^64
unfoldable pub hex_first : List ℕ → Option (ℕ × List ℕ)
hex_first bytes = option_map (λ n. (n, from_space bytes)) (hex_in (before_space bytes))

-- what follows a word with which the text begins
unfoldable pub past_word : List ℕ → List ℕ → Option (List ℕ)
past_word [] text = Some text
past_word (c ∷ word) [] = None
past_word (c ∷ word) (b ∷ text) = if c == b then past_word word text else None

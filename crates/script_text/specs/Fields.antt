-- Texts in pieces: the lines of a text, the fields of a line.
use Rattle.std.specs.Prelude.{ℕ, ◌^◌, List, [], ◌∷◌, ◌++◌, Bool, false, ◌&&◌, ◌==◌, nat_lt}
use Rattle.std.specs.Prelude.{nat_le}
use Rattle.std.specs.Prelude.{Option, Some, None, Result, Ok, Err, codes, if◌then◌else◌}
use Rattle.hex.specs.Hex.{decode_of, encode_lower}
use Rattle.hex.specs.declared.error.FromHexError.{FromHexError}
use Rattle.std.specs.List.{flat_map, list_all}
use Rattle.std.specs.Option.{option_map, option_and_then}
use Rattle.std.specs.Str.{bytes_eq}
use Rattle.std.specs.Str.Parse.{digits_value}
use Rattle.std.specs.Fmt.{digits}

abbrev pub with_first : ℕ → List (List ℕ) → List (List ℕ)
with_first b [] = (b ∷ []) ∷ []
with_first b (piece ∷ others) = (b ∷ piece) ∷ others

-- What stands between the separators: one piece more than there are separators. Of a text in lines
-- the last piece is what follows the last line.
abbrev pub pieces : ℕ → List ℕ → List (List ℕ)
pieces separator [] = [] ∷ []
pieces separator (b ∷ bytes) =
    if b == separator then [] ∷ pieces separator bytes else with_first b (pieces separator bytes)

-- the pieces that follow another, if any; what is left begins with the separator before them
abbrev pub pieces_after : ℕ → List ℕ → List (List ℕ)
pieces_after separator [] = []
pieces_after separator (b ∷ bytes) = pieces separator bytes

-- the fields that follow another, with a space (32) before each
abbrev pub fields_after : List ℕ → List (List ℕ)
fields_after rest = pieces_after 32 rest

-- the text of these lines, each with its line feed (10)
abbrev pub lines_text : List (List ℕ) → List ℕ
lines_text lines = flat_map (λ line. line ++ 10 ∷ []) lines

-- no byte but those from the space to the tilde
abbrev pub is_printable : List ℕ → Bool
is_printable line = list_all (λ b. nat_le 32 b && nat_le b 126) line

-- the number below the limit whose digits, lower case and without leading zeros, the field is
unfoldable pub number_in : ℕ → ℕ → List ℕ → Option ℕ
number_in base limit field =
    let n = digits_value base field in
    if nat_lt n limit && bytes_eq field (digits base false n) then Some n else None

-- a decimal number below 2^32
abbrev pub decimal_in : List ℕ → Option ℕ
decimal_in field = number_in 10 (2 ^ 32) field

-- a hexadecimal number below 2^64
abbrev pub hex_in : List ℕ → Option ℕ
hex_in field = number_in 16 (2 ^ 64) field

-- the bytes that are not none, where the field is their spelling
abbrev pub bytes_if : List ℕ → Result (List ℕ) FromHexError → Option (List ℕ)
bytes_if field (Err e) = None
bytes_if field (Ok []) = None
bytes_if field (Ok (b ∷ bytes)) =
    if bytes_eq field (encode_lower (b ∷ bytes)) then Some (b ∷ bytes) else None

-- the bytes, one at least, whose lower-case digits the field is
unfoldable pub hex_bytes_in : List ℕ → Option (List ℕ)
hex_bytes_in field = bytes_if field (decode_of field)

-- the bytes of a section: none of a dash, else those whose lower-case digits the field is
unfoldable pub section_bytes : List ℕ → Option (List ℕ)
section_bytes field = if bytes_eq field (codes "-") then Some [] else hex_bytes_in field

-- the hexadecimal numbers of all fields
abbrev pub all_hex_in : List (List ℕ) → Option (List ℕ)
all_hex_in [] = Some []
all_hex_in (field ∷ fields) =
    option_and_then (λ n. option_map (λ numbers. n ∷ numbers) (all_hex_in fields)) (hex_in field)

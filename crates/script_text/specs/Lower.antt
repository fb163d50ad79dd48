-- Digits in lower case.
use Rattle.std.specs.Prelude.{ℕ, ◌+◌, ◌-◌, ◌*◌, ◌%◌, Bool, ◌&&◌, ◌||◌, List, [], ◌∷◌, nat_le}
use Rattle.std.specs.Prelude.{if◌then◌else◌}

-- 0 to 9, and a to f
abbrev pub is_lower : ℕ → Bool
is_lower b = (nat_le 48 b && nat_le b 57) || (nat_le 97 b && nat_le b 102)

-- the value of such a digit, or 255
abbrev pub lower_value : ℕ → ℕ
lower_value b =
    if nat_le 48 b && nat_le b 57 then b - 48
    else if nat_le 97 b && nat_le b 102 then b - 87
    else 255

-- the bytes of pairs, whatever stands in the place of a digit
abbrev pub pair_bytes : List ℕ → List ℕ
pair_bytes (high ∷ low ∷ rest) =
    (lower_value high * 16 % 256 + lower_value low) % 256 ∷ pair_bytes rest
pair_bytes _ = []

-- LEB128 numbers, after DWARF 5, section 7.6: base 128, the lowest digit first, and the high bit
-- set in every byte but the last.
use Rattle.std.specs.Prelude.{◌≡◌, ℕ, suc, ◌+◌, ◌*◌, ◌%◌, ◌^◌, ℤ, pos, negsuc, ◌+ℤ◌, ◌-ℤ◌, ◌*ℤ◌}
use Rattle.std.specs.Prelude.{List, [], ◌∷◌, length, take, Bool, Option, Some, None, Result, Ok}
use Rattle.std.specs.Prelude.{Err, nat_lt, if◌then◌else◌}
use Rattle.std.specs.Option.{option_map}
use Rattle.eh_bytes.specs.declared.fault.ByteFault.{ByteFault}
use Rattle.eh_bytes.specs.declared.fault.ByteFault.TheVariants.{Short, TooWide}
use Rattle.eh_bytes.specs.CursorData.{CursorData, skipped}

-- how many bytes there are up to the first whose high bit is clear, which is the number's last
unfoldable pub leb_len : List ℕ → Option ℕ
leb_len [] = None
leb_len (b ∷ bs) = if nat_lt b 128 then Some 1 else option_map suc (leb_len bs)

-- one LEB128 number, wholly: its only byte with a clear high bit is the last
abbrev pub IsLeb : List ℕ → Type 0
IsLeb text = leb_len text ≡ Some (length text)

-- the number that whole bytes spell: each byte gives its low seven bits
unfoldable pub uleb_value : List ℕ → ℕ
uleb_value [] = 0
uleb_value (b ∷ bs) = b % 128 + 128 * uleb_value bs

-- the low seven bits of the last byte, of which the highest is the sign
abbrev pub signed_digit : ℕ → ℤ
signed_digit b = if nat_lt (b % 128) 64 then pos (b % 128) else pos (b % 128) -ℤ pos 128

-- the same, where the sign of the last byte goes on upwards
unfoldable pub sleb_value : List ℕ → ℤ
sleb_value [] = pos 0
sleb_value (b ∷ []) = signed_digit b
sleb_value (b ∷ c ∷ bs) = pos (b % 128) +ℤ pos 128 *ℤ sleb_value (c ∷ bs)

-- the number fits the signed type of 64 bits
abbrev pub fits_signed : ℤ → Bool
fits_signed (pos n) = nat_lt n (2 ^ 63)
fits_signed (negsuc n) = nat_lt n (2 ^ 63)

-- an unsigned number: its bytes must come to an end, and its value must fit 64 bits
unfoldable pub uleb_of : CursorData → Option ℕ → Result (ℕ × CursorData) ByteFault
uleb_of r None = Err (Short r.at)
uleb_of r (Some n) =
    if nat_lt (uleb_value (take n r.bytes)) (2 ^ 64)
    then Ok (uleb_value (take n r.bytes), skipped n r) else Err (TooWide r.at)

abbrev pub uleb_at : CursorData → Result (ℕ × CursorData) ByteFault
uleb_at r = uleb_of r (leb_len r.bytes)

-- a signed number, in the same way
unfoldable pub sleb_of : CursorData → Option ℕ → Result (ℤ × CursorData) ByteFault
sleb_of r None = Err (Short r.at)
sleb_of r (Some n) =
    if fits_signed (sleb_value (take n r.bytes))
    then Ok (sleb_value (take n r.bytes), skipped n r) else Err (TooWide r.at)

abbrev pub sleb_at : CursorData → Result (ℤ × CursorData) ByteFault
sleb_at r = sleb_of r (leb_len r.bytes)

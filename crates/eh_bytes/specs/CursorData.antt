-- What a cursor has left, and what a read of it gives.
use Rattle.std.specs.Prelude.{◌≡◌, ℕ, suc, ◌+◌, List, [], ◌∷◌, length, take, drop, Option, Some}
use Rattle.std.specs.Prelude.{None, Result, Ok, Err, nat_lt, ◌==◌, if◌then◌else◌}
use Rattle.std.specs.Option.{option_map}
use Rattle.byteorder.specs.Endian.{little_number}
use Rattle.eh_bytes.specs.declared.fault.ByteFault.{ByteFault}
use Rattle.eh_bytes.specs.declared.fault.ByteFault.TheVariants.{Short}

-- the bytes that are left, and the place of the first of them
pub record CursorData : Type 0 where
  pub bytes : List ℕ
  pub at : ℕ

-- what is left after the next n bytes
abbrev pub skipped : ℕ → CursorData → CursorData
skipped n r = record { bytes = drop n r.bytes; at = r.at + n }

-- The call gave what reading gives: the value and what is left after it, or the fault, and then
-- nothing moved. The view is how contracts see the value.
abbrev pub Reads : {X Y F : Type 0} → (X → Y) → (CursorData → Result (Y × CursorData) F)
    → CursorData → Result X F → CursorData → Type 0
Reads view read old (Ok x) new = read old ≡ Ok (view x, new)
Reads view read old (Err e) new = (read old ≡ Err e) × (new ≡ old)

-- The same, where a fault may leave the cursor further on.
abbrev pub Gives : {X Y F : Type 0} → (X → Y) → (CursorData → Result (Y × CursorData) F)
    → CursorData → Result X F → CursorData → Type 0
Gives view read old (Ok x) new = read old ≡ Ok (view x, new)
Gives view read old (Err e) new = read old ≡ Err e

-- the next n bytes
abbrev pub bytes_at : ℕ → CursorData → Result (List ℕ × CursorData) ByteFault
bytes_at n r = if nat_lt (length r.bytes) n
    then Err (Short r.at) else Ok (take n r.bytes, skipped n r)

-- the same as a rest of its own, which keeps the places, or this fault
abbrev pub data_at : {F : Type 0} → F → ℕ → CursorData → Result (CursorData × CursorData) F
data_at short n r = if nat_lt (length r.bytes) n
    then Err short else Ok (record { bytes = take n r.bytes; at = r.at }, skipped n r)

abbrev pub part_at : ℕ → CursorData → Result (CursorData × CursorData) ByteFault
part_at n r = data_at (Short r.at) n r

-- how many bytes stand before the first below a bound
unfoldable pub first_below : ℕ → List ℕ → Option ℕ
first_below n [] = None
first_below n (b ∷ bs) = if nat_lt b n then Some 0 else option_map suc (first_below n bs)

-- how many bytes stand before the first 0
unfoldable pub text_len : List ℕ → Option ℕ
text_len [] = None
text_len (b ∷ bs) = if b == 0 then Some 0 else option_map suc (text_len bs)

-- the bytes of a text, which a 0 ends
unfoldable pub text_of : CursorData → Option ℕ → Result (List ℕ × CursorData) ByteFault
text_of r None = Err (Short r.at)
text_of r (Some n) = Ok (take n r.bytes, skipped (n + 1) r)

abbrev pub text_at : CursorData → Result (List ℕ × CursorData) ByteFault
text_at r = text_of r (text_len r.bytes)

-- a number of n bytes, the lowest first
abbrev pub fixed_at : ℕ → CursorData → Result (ℕ × CursorData) ByteFault
fixed_at n r = if nat_lt (length r.bytes) n
    then Err (Short r.at) else Ok (little_number n r.bytes, skipped n r)

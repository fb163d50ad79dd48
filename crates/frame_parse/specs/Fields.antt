-- The fields of records: numbers, texts and pointers, as DWARF 5 (section 7.6) and the LSB spell
-- them.
use Rattle.std.specs.Prelude.{ℕ, ◌+◌, ◌%◌, ◌^◌, Bool, Option, Some, None, nat_lt, nat_le, ◌==◌}
use Rattle.std.specs.Prelude.{◌||◌, ◌&&◌, if◌then◌else◌}
use Rattle.eh_bytes.specs.PointerEncodings.{DW_EH_PE_sleb128, DW_EH_PE_indirect, DW_EH_PE_omit}
use Rattle.eh_bytes.specs.declared.fault.ByteFault.{ByteFault}
use Rattle.eh_bytes.specs.declared.fault.ByteFault.TheVariants as bytes
use Rattle.eh_bytes.specs.Fields.{fixed}
use Rattle.eh_bytes.specs.Pointer.{is_pointer, encoded_number, base_of}
use Rattle.frame_parse.specs.declared.fault.RecordFault.{RecordFault}
use Rattle.frame_parse.specs.declared.fault.RecordFault.TheVariants.{Short, TooWide, Encoding}
use Rattle.eh_bytes.specs.Grammar.{Part, ◌>>=◌, give, here, check, lift}

-- a field's fault as the record's
abbrev pub field_fault : ByteFault → RecordFault
field_fault (bytes.Short at) = Short at
field_fault (bytes.TooWide at) = TooWide at
field_fault (bytes.Encoding at byte) = Encoding at byte

-- a field of a record
abbrev pub field : {A : Type 0} → Part ByteFault A → Part RecordFault A
field g = lift field_fault g

-- the number of an encoding is negative: it has the sign of a signed format, from sleb128 on
abbrev pub is_negative : ℕ → ℕ → Bool
is_negative e x = nat_le DW_EH_PE_sleb128 (e % 16) && nat_le (2 ^ 63) x

-- a pointer: the number, and the address of the field where the encoding says so
unfoldable pub pointer : ℕ → ℕ → Part RecordFault ℕ
pointer section e = do
  at ← here
  x ← field (encoded_number e)
  give ((x + base_of e section at) % 2 ^ 64)

-- a pointer that is absent where its number is 0 before anything is added
unfoldable pub optional_pointer : ℕ → ℕ → Part RecordFault (Option ℕ)
optional_pointer section e = do
  at ← here
  x ← field (encoded_number e)
  give (if x == 0 then None else Some ((x + base_of e section at) % 2 ^ 64))

-- the encodings of code: a format, with nothing or the field's address added
abbrev pub is_code_encoding : ℕ → Bool
is_code_encoding e = is_pointer e && nat_lt e DW_EH_PE_indirect

-- the encodings of data: the same, also of a pointer's address, or that there is none
abbrev pub is_data_encoding : ℕ → Bool
is_data_encoding e = is_pointer e || e == DW_EH_PE_omit

-- an encoding that is accepted in its place
unfoldable pub encoding : (ℕ → Bool) → Part RecordFault ℕ
encoding accepts = do
  at ← here
  e ← field (fixed 1)
  _ ← check (accepts e) (Encoding at e)
  give e

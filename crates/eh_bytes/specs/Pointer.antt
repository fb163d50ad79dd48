-- Pointers as the LSB encodes them: the low four bits of an encoding are the format of the number,
-- bits 4 to 6 say what is added to it, and the highest bit marks the address of a pointer.
use Rattle.std.specs.Prelude.{ℕ, ◌+◌, ◌*◌, ◌/◌, ◌%◌, ◌^◌, Bool, nat_le, ◌==◌, ◌||◌, ◌&&◌}
use Rattle.std.specs.Prelude.{if◌then◌else◌}
use Rattle.std.specs.Int.{w16, w32, w64, cast_unsigned}
use Rattle.eh_bytes.specs.declared.fault.ByteFault.{ByteFault}
use Rattle.eh_bytes.specs.declared.fault.ByteFault.TheVariants.{Encoding}
use Rattle.eh_bytes.specs.PointerEncodings.{DW_EH_PE_absptr, DW_EH_PE_uleb128, DW_EH_PE_udata2}
use Rattle.eh_bytes.specs.PointerEncodings.{DW_EH_PE_udata4, DW_EH_PE_udata8, DW_EH_PE_sleb128}
use Rattle.eh_bytes.specs.PointerEncodings.{DW_EH_PE_sdata2, DW_EH_PE_sdata4, DW_EH_PE_sdata8}
use Rattle.eh_bytes.specs.PointerEncodings.{DW_EH_PE_pcrel}
use Rattle.eh_bytes.specs.Grammar.{Part, ◌>>=◌, give, here, when, check}
use Rattle.eh_bytes.specs.Fields.{fixed, signed_fixed, uleb, sleb}

-- the formats, which the low four bits name
abbrev pub is_format : ℕ → Bool
is_format f = nat_le f DW_EH_PE_udata8 || (nat_le DW_EH_PE_sleb128 f && nat_le f DW_EH_PE_sdata8)

-- the number of a format, modulo 2 ^ 64; eight bytes are the same with a sign and without
abbrev pub by_format : ℕ → Part ByteFault ℕ
by_format f =
    when (f == DW_EH_PE_uleb128) uleb
    (when (f == DW_EH_PE_udata2) (fixed 2)
    (when (f == DW_EH_PE_udata4) (fixed 4)
    (when (f == DW_EH_PE_sleb128) (sleb >>= λ x. give (cast_unsigned w64 x))
    (when (f == DW_EH_PE_sdata2) (signed_fixed w16 >>= λ x. give (cast_unsigned w64 x))
    (when (f == DW_EH_PE_sdata4) (signed_fixed w32 >>= λ x. give (cast_unsigned w64 x))
    (fixed 8))))))

-- the number of an encoding, to which nothing is added
unfoldable pub encoded_number : ℕ → Part ByteFault ℕ
encoded_number e = do
  at ← here
  _ ← check (is_format (e % 16)) (Encoding at e)
  by_format (e % 16)

-- what an encoding adds to the number, in bits 4 to 6
abbrev pub application_of : ℕ → ℕ
application_of e = e / 16 % 8 * 16

-- the encodings that are read: a format, with nothing or with the field's address added
abbrev pub is_pointer : ℕ → Bool
is_pointer e = is_format (e % 16)
    && (application_of e == DW_EH_PE_absptr || application_of e == DW_EH_PE_pcrel)

-- nothing, or the address of the field's first byte
abbrev pub base_of : ℕ → ℕ → ℕ → ℕ
base_of e section at = if application_of e == DW_EH_PE_pcrel then section + at else 0

-- a pointer, modulo 2 ^ 64
unfoldable pub encoded_pointer : ℕ → ℕ → Part ByteFault ℕ
encoded_pointer e section = do
  at ← here
  _ ← check (is_pointer e) (Encoding at e)
  x ← by_format (e % 16)
  give ((x + base_of e section at) % 2 ^ 64)

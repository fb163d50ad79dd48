-- The pointers of a record that may be those of pointers.
use Rattle.std.specs.Prelude.{ℕ, Bool, Option, nat_le}
use Rattle.std.specs.Option.{option_map}
use Rattle.eh_bytes.specs.PointerEncodings.{DW_EH_PE_indirect}
use Rattle.frame_parse.specs.Entries.{FdeRecord}
use Rattle.fde_row.specs.declared.pointed.Pointed.{Pointed}

-- the highest bit of an encoding says that a pointer stands at the address
abbrev pub is_indirect : ℕ → Bool
is_indirect encoding = nat_le DW_EH_PE_indirect encoding

abbrev pub pointed_by : ℕ → Option ℕ → Option Pointed
pointed_by encoding address =
    option_map (λ n. record { address = n; indirect = is_indirect encoding }) address

abbrev pub lsda_of : FdeRecord → Option Pointed
lsda_of f = pointed_by f.cie.augmentation.lsda f.lsda

abbrev pub personality_of : FdeRecord → Option Pointed
personality_of f =
    pointed_by f.cie.augmentation.personality_encoding f.cie.augmentation.personality

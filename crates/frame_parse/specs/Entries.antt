-- What a section keeps of its records, and what they say. A CIE is kept once, and its FDEs by its
-- number.
use Rattle.std.specs.Prelude.{ℕ, ◌<◌, List, get_or, Option, None, pos, false}
use Rattle.frame_parse.specs.declared.records.CieRecord.{CieRecord}
use Rattle.frame_parse.specs.declared.records.Extent.{Extent}
use Rattle.frame_parse.specs.declared.records.FdeEntry.{FdeEntry}
use Rattle.frame_parse.specs.declared.records.Entry.{Entry}
use Rattle.frame_parse.specs.declared.records.Entry.TheVariants as entries

-- an FDE, with its CIE
pub record FdeRecord : Type 0 where
  pub start : ℕ
  pub cie : CieRecord
  pub first : ℕ
  pub range : ℕ
  pub lsda : Option ℕ
  pub program : Extent

-- a record of a section
pub data Record : Type 0 where
  Cie : CieRecord → Record
  Fde : FdeRecord → Record

-- an FDE that is kept, with this CIE
abbrev pub with_cie : CieRecord → FdeEntry → FdeRecord
with_cie c f = record {
  start = f.start;
  cie = c;
  first = f.first;
  range = f.range;
  lsda = f.lsda;
  program = f.program;
}

-- what stands past the end of a list of CIEs
abbrev pub no_cie : CieRecord
no_cie = record {
  start = 0;
  code_alignment = 0;
  data_alignment = pos 0;
  has_data = false;
  augmentation = record {
    pointers = 0;
    lsda = 0;
    personality = None;
    personality_encoding = 0;
    signal = false;
  };
  offset = false;
  initial = record { at = 0; end = 0 };
}

-- an FDE that is kept, with its CIE of these
abbrev pub fde_among : List CieRecord → FdeEntry → FdeRecord
fde_among cies f = with_cie (get_or cies f.cie no_cie) f

-- the same of any record
abbrev pub record_among : List CieRecord → Entry → Record
record_among cies (entries.Cie c) = Cie c
record_among cies (entries.Fde f) = Fde (fde_among cies f)

-- its CIE is one of the first n
abbrev pub HasCie : ℕ → FdeEntry → Type 0
HasCie n f = f.cie < n

abbrev pub HasItsCie : ℕ → Entry → Type 0
HasItsCie n (entries.Cie c) = Unit {0}
HasItsCie n (entries.Fde f) = HasCie n f

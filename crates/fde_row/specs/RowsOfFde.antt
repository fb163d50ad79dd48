-- The row of an FDE at an address.
use Rattle.std.specs.Prelude.{◌≡◌, ℕ, List, true, false, Option, Some, None, Ok}
use Rattle.frame_parse.specs.Entries.{FdeRecord}
use Rattle.frame_parse.specs.Sections.{FdeData, covers}
use Rattle.frame_rows.specs.RowAt.{IsRowAt}
use Rattle.frame_rows.specs.Rules.{RowData}
use Rattle.fde_row.specs.Reading.{lone_fde}

-- a row where the FDE covers the address, and none elsewhere
abbrev pub IsRowOfFde : FdeData → ℕ → Option RowData → Type 0
IsRowOfFde f pc None = covers pc f.entry ≡ false
IsRowOfFde f pc (Some row) = (covers pc f.entry ≡ true) × IsRowAt f pc row

-- an FDE in bytes at an address
abbrev pub fde_data : ℕ → List ℕ → FdeRecord → FdeData
fde_data section bytes f = record { section = section; bytes = bytes; entry = f }

-- an FDE that is read in these bytes is read in those, too, and has the same rows there
pub record StaysTheSame (section : ℕ) (bytes others : List ℕ) (cie fde : ℕ) (f : FdeRecord)
    : Type 0 where
  pub read : lone_fde section others cie fde ≡ Ok f
  pub rows : (pc : ℕ) (row : RowData) → IsRowAt (fde_data section bytes f) pc row
      → IsRowAt (fde_data section others f) pc row

-- The rows that initial instructions leave, each kept with its CIE.
use Rattle.std.specs.Prelude.{◌≡◌}
use Rattle.frame_parse.specs.Entries.{no_cie}
use Rattle.frame_parse.specs.Sections.{FdeData, SectionData}
use Rattle.frame_rows.specs.Rows.{IsInitialRow, unset}
use Rattle.row_table.specs.declared.cie_rows.CieRow.{CieRow}

-- an FDE is one of a section's bytes
abbrev pub IsFdeIn : SectionData → FdeData → Type 0
IsFdeIn s f = (f.section ≡ s.address) × (f.bytes ≡ s.bytes)

-- a row is the one that the initial instructions leave of every FDE with this CIE
abbrev pub IsCieRow : SectionData → CieRow → Type 0
IsCieRow s x = (f : FdeData) → IsFdeIn s f → f.entry.cie ≡ x.cie → IsInitialRow f x.row

-- what stands past the end of a list of them
abbrev pub no_cie_row : CieRow
no_cie_row = record { cie = no_cie; row = unset }

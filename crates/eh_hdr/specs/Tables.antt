-- What a header has: its section, and the table, whose entries name every FDE of the section once,
-- in order of addresses.
use Rattle.std.specs.Prelude.{◌≡◌, ℕ, ◌+◌, ◌<◌, ◌≤◌, List, [], ◌∷◌, length, Option, Some, None}
use Rattle.std.specs.Prelude.{slice_get, map}
use Rattle.std.specs.Option.{unwrap_or}
use Rattle.frame_parse.specs.Entries.{FdeRecord}
use Rattle.frame_parse.specs.Sections.{SectionData}
use Rattle.eh_hdr.specs.declared.table.TableEntry.{TableEntry}

-- what contracts see of a header: its section, and its table's entries, where it has one
pub record HeaderData : Type 0 where
  pub section : SectionData
  pub table : Option (List TableEntry)

-- the entries; there are none where there is no table
abbrev pub entries_of_header : HeaderData → List TableEntry
entries_of_header h = unwrap_or h.table []

-- a location stands above the first address of an FDE, and not below its end
abbrev pub IsPast : Option FdeRecord → ℕ → Type 0
IsPast None location = Unit {0}
IsPast (Some f) location = (f.first < location) × (f.first + f.range ≤ location)

-- each entry is at the first address of its FDE, past the FDE of the entry before
abbrev pub AreTableEntries : List FdeRecord → Option FdeRecord → List TableEntry → Type 0
AreTableEntries fdes before [] = Unit {0}
AreTableEntries fdes before (e ∷ es) =
    (f : FdeRecord) × (slice_get fdes e.fde ≡ Some f) × (f.first ≡ e.location)
    × IsPast before e.location × AreTableEntries fdes (Some f) es

-- the locations, and that of the last entry that isn't above an address
abbrev pub locations : List TableEntry → List ℕ
locations es = map (λ e. e.location) es

abbrev pub IsLastUpTo : ℕ → List TableEntry → ℕ → Type 0
IsLastUpTo pc es i =
    (i < length es) × ((e : TableEntry) → slice_get es i ≡ Some e → e.location ≤ pc)
    × ((j : ℕ) (e : TableEntry) → i < j → slice_get es j ≡ Some e → pc < e.location)

-- a table has an entry for each FDE
abbrev pub IsSortedTable : List FdeRecord → Option (List TableEntry) → Type 0
IsSortedTable fdes None = Unit {0}
IsSortedTable fdes (Some es) = (length es ≡ length fdes) × AreTableEntries fdes None es

-- What came of a header, as C is told.
use Rattle.std.specs.Prelude.{◌≡◌, ◌⊎◌, ℕ, List, Option, Some, None}
use Rattle.eh_hdr.specs.Headers.{IsHeader, IsRefusedHeader}
use Rattle.eh_hdr.specs.declared.fault.HeaderFault.{HeaderFault}
use Rattle.eh_hdr.specs.declared.fault.HeaderFault.TheVariants as faults
use Rattle.eh_hdr.specs.declared.table.TableEntry.{TableEntry}
use Rattle.frames_c.specs.Held.{LoadedData}
use Rattle.frames_c.specs.declared.header.FramesHeader.{FramesHeader}

abbrev pub header_accepted : FramesHeader
header_accepted = record { accepted = 1; kind = 0; at = 0 }

-- a refusal by its kind and its place
abbrev pub header_refused : HeaderFault → FramesHeader
header_refused faults.NoMemory = record { accepted = 0; kind = 0; at = 0 }
header_refused (faults.Short at) = record { accepted = 0; kind = 1; at = at }
header_refused (faults.Version at) = record { accepted = 0; kind = 2; at = at }
header_refused (faults.Encoding at) = record { accepted = 0; kind = 3; at = at }
header_refused (faults.Section at) = record { accepted = 0; kind = 4; at = at }
header_refused (faults.Count at) = record { accepted = 0; kind = 5; at = at }
header_refused (faults.Fde at) = record { accepted = 0; kind = 6; at = at }
header_refused (faults.Order at) = record { accepted = 0; kind = 7; at = at }
header_refused (faults.Overlap at) = record { accepted = 0; kind = 8; at = at }

-- the bytes begin with a header of the section, whose table is kept beside it
abbrev pub KeepsHeader : ℕ → LoadedData → List ℕ → Type 0
KeepsHeader address loaded bytes =
    (t : Option (List TableEntry)) × IsHeader address loaded.section bytes t
    × (loaded.table ≡ Some t)

-- this is their first refusal, or memory ran out, and no table is kept
abbrev pub RefusesHeader : ℕ → LoadedData → List ℕ → HeaderFault → Type 0
RefusesHeader address loaded bytes f =
    ((f ≡ faults.NoMemory) ⊎ IsRefusedHeader address loaded.section bytes f)
    × (loaded.table ≡ None)

-- one or the other, and C is told which
abbrev pub IsHeaderTold : ℕ → LoadedData → List ℕ → FramesHeader → Type 0
IsHeaderTold address loaded bytes told =
    (KeepsHeader address loaded bytes × (told ≡ header_accepted))
    ⊎ ((f : HeaderFault) × RefusesHeader address loaded bytes f × (told ≡ header_refused f))

-- the same of what a handle leads to
abbrev pub LeadsWithHeader : ℕ → List ℕ → Option LoadedData → FramesHeader → Type 0
LeadsWithHeader address bytes held told =
    (loaded : LoadedData) × (held ≡ Some loaded) × IsHeaderTold address loaded bytes told

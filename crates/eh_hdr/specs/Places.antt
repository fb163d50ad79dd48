-- Which FDE an entry of the table names, and where it may stand.
use Rattle.std.specs.Prelude.{ℕ, Bool, ◌+◌, ◌-◌, ◌%◌, ◌^◌, Option, Some, None, Result, Ok, Err}
use Rattle.std.specs.Prelude.{nat_le, nat_lt, ◌==◌, ◌&&◌, if◌then◌else◌}
use Rattle.std.specs.List.{position}
use Rattle.frame_parse.specs.Entries.{FdeRecord}
use Rattle.frame_parse.specs.Sections.{SectionData}
use Rattle.eh_hdr.specs.declared.fault.HeaderFault.{HeaderFault}
use Rattle.eh_hdr.specs.declared.fault.HeaderFault.TheVariants.{Order, Overlap}

-- the place of an address in a section, modulo 2 ^ 64
abbrev pub section_place : SectionData → ℕ → ℕ
section_place section address = (address + (2 ^ 64 - section.address)) % 2 ^ 64

-- an FDE's record begins at a place, and its first address is a location
abbrev pub is_fde_at : ℕ → ℕ → FdeRecord → Bool
is_fde_at place location f = f.start == place && f.first == location

-- the number of the FDE whose record begins at this address and whose first address is this
-- location
abbrev pub named_fde : SectionData → ℕ → ℕ → Option ℕ
named_fde section address location =
    position (is_fde_at (section_place section address) location) section.fdes

-- whether a location may follow the entry before, which has this FDE; else the refusal at a place
abbrev pub follows : Option FdeRecord → ℕ → ℕ → Result (Unit {0}) HeaderFault
follows None at location = Ok tt
follows (Some f) at location =
    if nat_le location f.first then Err (Order at)
    else (if nat_lt location (f.first + f.range) then Err (Overlap at) else Ok tt)

-- Which addresses the ranges of a section have.
use Rattle.std.specs.Prelude.{◌+◌, ◌-◌, ◌%◌, ◌^◌, List, [], ◌∷◌, cond, min, max}
use Rattle.fde_members.specs.Members.{is_kept}
use Rattle.frame_parse.specs.Entries.{FdeRecord}
use Rattle.frame_parse.specs.Sections.{SectionData}
use Rattle.unwind_c.specs.declared.reach.AddressReach.{AddressReach}

-- of no ranges
abbrev pub no_reach : AddressReach
no_reach = record { lowest = 2 ^ 64 - 1; end = 0 }

-- and of one FDE more, where it has addresses
abbrev pub reach_with : AddressReach → FdeRecord → AddressReach
reach_with r f = cond (is_kept f)
    (record { lowest = min r.lowest f.first; end = max r.end ((f.first + f.range) % 2 ^ 64) }) r

-- and of more FDEs
abbrev pub reach_of_more : AddressReach → List FdeRecord → AddressReach
reach_of_more r [] = r
reach_of_more r (f ∷ fdes) = reach_of_more (reach_with r f) fdes

-- the least address of a section's ranges, and the one after the greatest
abbrev pub section_reach : SectionData → AddressReach
section_reach s = reach_of_more no_reach s.fdes

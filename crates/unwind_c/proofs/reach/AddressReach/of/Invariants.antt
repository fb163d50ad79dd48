use Rattle.std.proofs.Common.{◌≡◌, drop}
use Rattle.unwind_c.specs.Reach.{reach_of_more, section_reach}
use Rattle.unwind_c.proofs.reach.AddressReach.of.Given as goal

-- the FDEs that are left make of that so far what all make of none
abbrev pub invariant-loop-index : goal.invariant-loop-index
invariant-loop-index l = record { left : section_reach l.section ≡ reach_of_more l.reach (drop l.index l.section.fdes) }

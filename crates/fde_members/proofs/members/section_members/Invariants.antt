use Rattle.std.proofs.Common.{◌≡◌, ◌++◌, drop}
use Rattle.fde_members.specs.Members.{AreNear, members_at, section_members}
use Rattle.fde_members.proofs.members.section_members.Given as goal

-- the members of the FDEs so far, which are near
abbrev pub invariant-loop-index : goal.invariant-loop-index
invariant-loop-index l = record {
  listed : section_members l.low l.section ≡ l.members.items ++ members_at l.low l.section.address (drop l.index l.section.fdes);
  near : AreNear l.members.items;
}

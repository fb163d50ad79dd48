use Rattle.std.proofs.Common.{take}
use Rattle.receipt_check.specs.Maps.{Reflects}
use Rattle.receipt_check.proofs.member_map.MemberMap.of.Given as goal

-- those that were passed
abbrev pub invariant-loop-member : goal.invariant-loop-member
invariant-loop-member l = Reflects l.map (take l.member-index l.members)

use Rattle.std.proofs.Common.{◌≡◌, drop}
use Rattle.reg_model.specs.Query.{member_at}
use Rattle.segment_array.proofs.find.segment_hit.Given as goal

-- the answer is among the members that are left
abbrev pub invariant-loop-member : goal.invariant-loop-member
invariant-loop-member l = member_at l.pc l.segment ≡ member_at l.pc (drop l.member-index l.segment)

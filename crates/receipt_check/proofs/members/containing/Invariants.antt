use Rattle.std.proofs.Common.{◌≡◌, drop}
use Rattle.reg_model.specs.Query.{member_at}
use Rattle.receipt_check.proofs.members.containing.Given as goal

-- the members that were passed do not contain the address
abbrev pub invariant-loop-member : goal.invariant-loop-member
invariant-loop-member l = member_at l.pc (drop l.member-index l.members) ≡ member_at l.pc l.members

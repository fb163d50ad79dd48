use Rattle.std.proofs.Common.{take}
use Rattle.reg_model.specs.State.{IsFree}
use Rattle.receipt_check.proofs.members.is_free.Given as goal

-- the members that were passed don't overlap the span
abbrev pub invariant-loop-member : goal.invariant-loop-member
invariant-loop-member l = IsFree l.span (take l.member-index l.members)

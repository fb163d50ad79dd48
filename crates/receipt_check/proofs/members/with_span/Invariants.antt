use Rattle.std.proofs.Common.{◌≡◌, drop}
use Rattle.reg_model.specs.State.{at_span}
use Rattle.receipt_check.proofs.members.with_span.Given as goal

-- the members that were passed have other spans
abbrev pub invariant-loop-member : goal.invariant-loop-member
invariant-loop-member l = at_span l.span (drop l.member-index l.members) ≡ at_span l.span l.members

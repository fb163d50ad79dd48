use Rattle.std.proofs.Common.{◌≡◌, drop}
use Rattle.reg_model.specs.State.{at_base}
use Rattle.receipt_check.proofs.members.with_base.Given as goal

-- the members that were passed have other first addresses
abbrev pub invariant-loop-member : goal.invariant-loop-member
invariant-loop-member l = at_base l.base (drop l.member-index l.members) ≡ at_base l.base l.members

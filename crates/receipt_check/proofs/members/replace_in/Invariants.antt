use Rattle.std.proofs.Common.{◌≡◌, ◌++◌, take, drop}
use Rattle.reg_model.specs.History.{with_payload}
use Rattle.receipt_check.proofs.members.replace_in.Given as goal

-- the members that were passed have their payloads, and the others are as they were
abbrev pub invariant-loop-listed : goal.invariant-loop-listed
invariant-loop-listed l = l.members ≡ with_payload l.member (take l.listed-index l.fn.members) ++ drop l.listed-index l.fn.members

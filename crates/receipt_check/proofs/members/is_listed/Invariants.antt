use Rattle.std.proofs.Common.{◌≢◌, take, All}
use Rattle.receipt_check.proofs.members.is_listed.Given as goal

-- the members that were passed are others
abbrev pub invariant-loop-listed : goal.invariant-loop-listed
invariant-loop-listed l = All (λ m. m ≢ l.member) (take l.listed-index l.members)

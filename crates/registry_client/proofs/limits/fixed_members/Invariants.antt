use Rattle.std.proofs.Common.{◌≡◌, ◌++◌, map, length}
use Rattle.registry_client.specs.Members.{AreGivenMembers, given_member}
use Rattle.registry_client.proofs.limits.fixed_members.Given as goal

abbrev pub invariant-loop-left : goal.invariant-loop-left
invariant-loop-left l = record {
  members : l.members.items ++ map given_member l.left ≡ map given_member l.fn.told;
  told : AreGivenMembers l.payloads l.low l.left → AreGivenMembers l.payloads 0 l.fn.told;
  left : AreGivenMembers l.payloads 0 l.fn.told → AreGivenMembers l.payloads l.low l.left;
}

abbrev pub decreases-loop-left : goal.decreases-loop-left
decreases-loop-left l = length l.left

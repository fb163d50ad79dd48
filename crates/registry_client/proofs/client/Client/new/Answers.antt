use Rattle.std.proofs.Common.{sym, subst}
use Rattle.std.specs.List.{AllByRecursion}
use Rattle.segment_array.specs.Ascending.{AscendFrom}
use Rattle.registry_client.proofs.FixedMembers.{told_ascend, told_members}
use Rattle.registry_client.proofs.client.Client.new.Goals as goal

pub new-made-requires-clause-ascending : goal.new-made-requires-clause-ascending
new-made-requires-clause-ascending c =
    subst (AscendFrom 0) (sym c.in_ok-members.ensures.members) (told_ascend _ 0 _ c.in_ok-members.ensures.told)

pub new-made-requires-clause-members : goal.new-made-requires-clause-members
new-made-requires-clause-members c =
    subst (AllByRecursion _) (sym c.in_ok-members.ensures.members) (told_members _ 0 _ c.in_ok-members.ensures.told)

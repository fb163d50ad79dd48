use Rattle.std.proofs.Common.{◌≡◌, take}
use Rattle.fde_members.specs.Members.{AreNear}
use Rattle.fde_writer.specs.Moves.{moved_members}
use Rattle.fde_writer.specs.Places.{placed_members}
use Rattle.fde_writer.proofs.moving.moved_members.Given as goal

abbrev pub invariant-loop-place : goal.invariant-loop-place
invariant-loop-place l = record {
  members : l.members.items ≡ moved_members l.from l.to (placed_members (take l.place-index l.places));
  near : AreNear l.members.items;
}

use Rattle.std.proofs.Common.{◌≡◌, take}
use Rattle.fde_writer.specs.Places.{all_registered, placed_members}
use Rattle.fde_writer.proofs.place.registered_places.Given as goal

abbrev pub invariant-loop-member : goal.invariant-loop-member
invariant-loop-member l = record {
  places : l.places.items ≡ all_registered (take l.member-index l.members);
  members : placed_members l.places.items ≡ take l.member-index l.members;
}

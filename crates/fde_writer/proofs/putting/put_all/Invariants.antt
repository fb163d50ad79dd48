use Rattle.std.proofs.Common.{◌≡◌, ◌*◌, take}
use Rattle.fde_writer.specs.Places.{placed_members}
use Rattle.fde_writer.specs.Puttings.{Puts}
use Rattle.fde_writer.proofs.putting.put_all.Given as goal

-- those so far were put
abbrev pub invariant-loop-index : goal.invariant-loop-index
invariant-loop-index l = record {
  whole : placed_members l.places ≡ placed_members l.fn.places;
  puts : Puts (placed_members (take l.index l.places)) (2 * l.index) (take l.index l.places) l.numbers l.fn.writer l.writer;
}

use Rattle.std.proofs.Common.{take}
use Rattle.fde_writer.specs.Puttings.{TakesAway}
use Rattle.fde_writer.proofs.putting.take_back.Given as goal

-- those so far were taken away
abbrev pub invariant-loop-place : goal.invariant-loop-place
invariant-loop-place l = TakesAway (take l.place-index l.places) l.numbers l.fn.writer l.writer

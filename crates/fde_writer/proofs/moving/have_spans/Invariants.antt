use Rattle.std.proofs.Common.{take}
use Rattle.std.specs.List.{All}
use Rattle.reg_model.specs.SpanData.{IsSpan}
use Rattle.fde_writer.specs.Places.{placed_members}
use Rattle.fde_writer.proofs.moving.have_spans.Given as goal

abbrev pub invariant-loop-place : goal.invariant-loop-place
invariant-loop-place l = All (λ m. IsSpan m.span) (placed_members (take l.place-index l.places))

use Rattle.std.proofs.Common.{◌≤◌, take, All}
use Rattle.segment_array.proofs.find.place.Given as goal

-- those so far begin at or below the address
abbrev pub invariant-loop-place : goal.invariant-loop-place
invariant-loop-place l = All (λ m. m.span.first ≤ l.pc) (take l.place l.members)

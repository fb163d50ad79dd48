use Rattle.std.proofs.Common.{◌≡◌, drop}
use Rattle.eh_bytes.specs.CursorData.{first_below}
use Rattle.eh_bytes.proofs.Ends.{shifted}
use Rattle.eh_bytes.proofs.leb.first_below.Given as goal

abbrev pub invariant-loop-i : goal.invariant-loop-i
invariant-loop-i l = first_below l.bound l.bytes ≡ shifted l.i (first_below l.bound (drop l.i l.bytes))

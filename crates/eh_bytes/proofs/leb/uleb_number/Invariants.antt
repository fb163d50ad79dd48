use Rattle.std.proofs.Common.{◌≡◌, ◌<◌, ◌≤◌, ◌^◌, length, drop}
use Rattle.eh_bytes.specs.Leb.{uleb_value}
use Rattle.eh_bytes.proofs.leb.uleb_number.Given as goal

abbrev pub invariant-loop-i : goal.invariant-loop-i
invariant-loop-i l = record { within : l.i ≤ length l.text; fits : l.number < 2 ^ 64; so_far : l.number ≡ uleb_value (drop l.i l.text) }

abbrev pub decreases-loop-i : goal.decreases-loop-i
decreases-loop-i l = l.i

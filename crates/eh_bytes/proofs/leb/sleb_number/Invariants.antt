use Rattle.std.proofs.Common.{◌≡◌, ◌<◌, length, drop}
use Rattle.eh_bytes.specs.Leb.{sleb_value}
use Rattle.eh_bytes.proofs.leb.sleb_number.Given as goal

abbrev pub invariant-loop-i : goal.invariant-loop-i
invariant-loop-i l = record { within : l.i < length l.text; so_far : l.signed ≡ sleb_value (drop l.i l.text) }

abbrev pub decreases-loop-i : goal.decreases-loop-i
decreases-loop-i l = l.i

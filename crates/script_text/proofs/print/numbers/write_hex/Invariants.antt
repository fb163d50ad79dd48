use Rattle.std.proofs.Common.{◌≡◌, ◌+◌, ◌≤◌, ◌++◌, length, drop}
use Rattle.script_text.specs.Digits.{hex}
use Rattle.script_text.proofs.print.numbers.write_hex.Given as goal

-- the digits of what is left have room, and before those so far they are all
abbrev pub invariant-loop-left : goal.invariant-loop-left
invariant-loop-left l = record {
  room : length (hex l.left) ≤ l.at;
  within : l.at ≤ l.end;
  count : l.at + length (hex l.number) ≡ l.end + length (hex l.left);
  spelled : hex l.left ++ drop l.at l.room ≡ hex l.number ++ drop l.end l.fn.room;
}

abbrev pub decreases-loop-left : goal.decreases-loop-left
decreases-loop-left l = l.left

use Rattle.std.proofs.Common.{◌≡◌, ◌+◌, ◌*◌, ◌&&◌, ◌++◌, length, take}
use Rattle.std.specs.List.{list_all}
use Rattle.script_text.specs.Lower.{is_lower, pair_bytes}
use Rattle.event_script.proofs.reader.bytes.decode_pairs.Given as goal

-- the bytes so far and those of what is left are all; whether all are digits is told by those so far and what is left
abbrev pub invariant-loop-left : goal.invariant-loop-left
invariant-loop-left l = record {
  so_far : take l.index l.bytes ++ pair_bytes l.left ≡ pair_bytes l.field;
  room : length l.left + l.index * 2 ≡ length l.bytes * 2;
  digits : (l.lower && list_all is_lower l.left) ≡ list_all is_lower l.field;
}

abbrev pub decreases-loop-left : goal.decreases-loop-left
decreases-loop-left l = length l.left

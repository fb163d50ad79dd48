use Rattle.std.proofs.Common.{◌≡◌, ◌++◌, ◌≤◌, drop, length, take}
use Rattle.std.specs.Map.{keys_of}
use Rattle.fde_writer.proofs.Filling.{filled}
use Rattle.fde_writer.proofs.book.Book.keys.Given as goal

-- what is left goes behind what is written
abbrev pub invariant-loop-key : goal.invariant-loop-key
invariant-loop-key l = record {
  written : take l.count l.room ++ filled (drop l.count l.room) l.key-iterator ≡ filled l.initial.room (keys_of l.self);
  long : length l.room ≡ length l.initial.room;
  within : l.count ≤ length l.room;
}

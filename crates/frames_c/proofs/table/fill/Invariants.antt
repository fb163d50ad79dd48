use Rattle.std.proofs.Common.{◌≡◌, ◌≤◌, length, take}
use Rattle.frames_c.specs.TableEntries.{entries_told}
use Rattle.frames_c.proofs.table.fill.Given as goal

-- the FDEs so far are told
abbrev pub invariant-loop-index : goal.invariant-loop-index
invariant-loop-index l = record {
  told : take l.count l.entries ≡ entries_told (take l.index l.section.fdes);
  few : l.count ≤ l.index;
  room : length l.section.fdes ≤ length l.entries;
}

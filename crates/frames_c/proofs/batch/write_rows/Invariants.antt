use Rattle.std.proofs.Common.{◌≡◌, length}
use Rattle.frames_c.specs.Batches.{AreRowsBelow}
use Rattle.frames_c.proofs.batch.write_rows.Given as goal

-- the rows so far are written
abbrev pub invariant-loop-index : goal.invariant-loop-index
invariant-loop-index l = record {
  rows : AreRowsBelow l.index l.section l.pcs l.rows;
  long : length l.rows ≡ length l.pcs;
}

use Rattle.std.proofs.Common.{take}
use Rattle.std.specs.List.{AllZip}
use Rattle.frames_c.specs.Rows.{IsToldPlaced}
use Rattle.frames_c.proofs.told_rows.told_rows.Given as goal

-- the rows so far are told
abbrev pub invariant-loop-row : goal.invariant-loop-row
invariant-loop-row l = AllZip IsToldPlaced (take l.row-index l.rows) l.all.items

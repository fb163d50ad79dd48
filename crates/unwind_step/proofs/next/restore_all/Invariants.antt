use Rattle.std.proofs.Common.{◌≡◌, length}
use Rattle.unwind_step.specs.NextFrame.{AreRestored}
use Rattle.unwind_step.proofs.next.restore_all.Given as goal

-- the columns so far are restored
abbrev pub invariant-loop-column : goal.invariant-loop-column
invariant-loop-column g l = record {
  restored : AreRestored l.column l.row l.cfa l.callee.regs.now.columns (g.M.WordSource.regions l.callee.memory.now) l.columns;
  all : length l.columns ≡ 17;
}

use Rattle.frames_c.proofs.Tables.{AreLeft}
use Rattle.frames_c.proofs.table.searched.Given as goal

abbrev pub invariant-loop-size : goal.invariant-loop-size
invariant-loop-size l = AreLeft l.entries l.pc l.base l.size

abbrev pub decreases-loop-size : goal.decreases-loop-size
decreases-loop-size l = l.size

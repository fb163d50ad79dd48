use Rattle.std.proofs.Common.{ℕ, length}
use Rattle.frame_expr.specs.Regions.{AreFrom}
use Rattle.frame_expr.proofs.Ascending.{AreAlikeAt}
use Rattle.frame_expr.proofs.memory.last_from.Given as goal

abbrev pub invariant-loop-left : goal.invariant-loop-left
invariant-loop-left l = (low : ℕ) × AreFrom low l.left × AreAlikeAt l.address l.left l.regions

abbrev pub decreases-loop-left : goal.decreases-loop-left
decreases-loop-left l = length l.left

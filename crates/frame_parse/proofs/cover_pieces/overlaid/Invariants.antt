use Rattle.std.proofs.Common.{length, ◌+◌}
use Rattle.frame_parse.proofs.Pieces.{IsOverlaid}
use Rattle.frame_parse.proofs.cover_pieces.overlaid.Given as goal

abbrev pub invariant-loop-left : goal.invariant-loop-left
invariant-loop-left l = IsOverlaid l.earlier l.later l.pieces.items l.left l.right

abbrev pub decreases-loop-left : goal.decreases-loop-left
decreases-loop-left l = length l.left + length l.right

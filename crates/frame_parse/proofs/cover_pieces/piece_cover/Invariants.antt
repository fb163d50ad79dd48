use Rattle.std.proofs.Common.{◌-◌}
use Rattle.frame_parse.proofs.Pieces.{AreBetween}
use Rattle.frame_parse.proofs.cover_pieces.piece_cover.Given as goal

abbrev pub invariant-loop-low : goal.invariant-loop-low
invariant-loop-low l = AreBetween l.pc l.low l.high l.pieces

abbrev pub decreases-loop-low : goal.decreases-loop-low
decreases-loop-low l = l.high - l.low

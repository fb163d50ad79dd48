use Rattle.std.proofs.Common.{length}
use Rattle.frame_parse.proofs.cover_pieces.+pieces_of.Given as goal

abbrev pub decreases-pieces_of : goal.decreases-pieces_of
decreases-pieces_of l = length l.fdes.now

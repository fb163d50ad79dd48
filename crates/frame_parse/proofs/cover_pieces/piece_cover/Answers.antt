use Rattle.std.proofs.Common.{◌+◌, ◌-◌, ◌/◌, arith}
use Rattle.frame_parse.proofs.Pieces.{no_piece, lower_ones, higher_ones, found_at, none_at}
use Rattle.frame_parse.proofs.cover_pieces.piece_cover.Goals as goal

pub loop-low-preserved-then-pc-pieces : goal.loop-low-preserved-then-pc-pieces
loop-low-preserved-then-pc-pieces c =
    let was = c.loop-low in
    let middle = was.low + (was.high - was.low) / 2 in
    lower_ones c.args.pc was.low was.high middle c.args.pieces.now no_piece c.requires was.invariant (omega arith) (omega arith) c.if-pc-pieces.true

pub loop-low-preserved : goal.loop-low-preserved
loop-low-preserved c =
    let was = c.loop-low in
    let middle = was.low + (was.high - was.low) / 2 in
    higher_ones c.args.pc was.low was.high middle c.args.pieces.now no_piece c.requires was.invariant (omega arith) (omega arith) c.if-pc-pieces.false

pub returns-then-low-pieces : goal.returns-then-low-pieces
returns-then-low-pieces c =
    let was = c.loop-low in
    let is = was.invariant in
    found_at c.args.pc c.args.pieces.now was.low no_piece is.above (is.reached was.low no_piece (omega arith) (omega arith)) (omega arith)

pub returns-else-low-pieces : goal.returns-else-low-pieces
returns-else-low-pieces c =
    let was = c.loop-low in
    none_at c.args.pc c.args.pieces.now (λ k d lt. was.invariant.above k d (omega arith))

use Rattle.std.proofs.Common.{arith}
use Rattle.frame_parse.specs.Lookups.{IsOverlay}
use Rattle.frame_parse.proofs.Pieces.{both_halves}
use Rattle.frame_parse.proofs.cover_pieces.+pieces_of.Goals as goal

pub returns-in_ok-pieces-in_default : goal.returns-in_ok-pieces-in_default
returns-in_ok-pieces-in_default t c =
    let front = c.split_at.result.0.now in
    let back = c.split_at.result.1.now in
    let earlier = c.in_ok-earlier-in_default.earlier.items in
    let later = c.in_ok-later-in_default.later.items in
    let pieces = c.in_ok-pieces-in_default.pieces.items in
    let over : IsOverlay earlier later pieces = rw (← c.deref.ensures.value, ← c.deref-in_default.ensures.value) c.in_ok-pieces-in_default.ensures in
    both_halves c.args.number _ c.args.fdes.now front back earlier later pieces c.split_at.ensures.by_index.0 (omega (arith, c.split_at.ensures.front_len)) c.in_ok-earlier-in_default.ensures c.in_ok-later-in_default.ensures over

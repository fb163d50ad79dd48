use Rattle.std.proofs.Common.{subst, arith}
use Rattle.frame_parse.specs.Lookups.{Finds}
use Rattle.frame_parse.proofs.Lookups.{IsFound, covered, cover-map, within-map}
use Rattle.frame_parse.proofs.Pieces.{cover_of_pieces}
use Rattle.frame_parse.proofs.fde_lookup.FdeList.cover.Goals as goal

pub returns-in-Ordered : goal.returns-in-Ordered
returns-in-Ordered c =
    let l = c.self.inside in
    let finds = subst (Finds l.fdes.items) c.in-Ordered.is c.self.invariant.0 in
    let found : IsFound c.args.pc c.in-Ordered.ranges.items c.ordered_cover.result = (rw c.deref.ensures.value at c.ordered_cover.ensures.none, rw c.deref.ensures.value at c.ordered_cover.ensures.some) in
    let first = covered c.args.pc l.fdes.items c.in-Ordered.ranges.items c.ordered_cover.result finds.0 finds.1 found in
    record {
      value = rw (← c.self.view_is) (cover-map c.args.pc l.cies.items l.fdes.items c.ordered_cover.result first.0);
      within = rw (← c.self.view_is) (within-map l.cies.items l.fdes.items c.ordered_cover.result first.1);
    }

pub piece_cover-requires : goal.piece_cover-requires
piece_cover-requires c =
    let finds = subst (Finds c.self.inside.fdes.items) c.in-Pieces.is c.self.invariant.0 in
    rw c.deref-in-Pieces.ensures.value finds.falls

pub returns-in-Pieces : goal.returns-in-Pieces
returns-in-Pieces c =
    let l = c.self.inside in
    let finds = subst (Finds l.fdes.items) c.in-Pieces.is c.self.invariant.0 in
    let found = rw c.deref-in-Pieces.ensures.value at c.piece_cover.ensures in
    let first = cover_of_pieces c.args.pc l.fdes.items c.in-Pieces.pieces.items (omega arith) finds in
    record {
      value = rw (← c.self.view_is) (cover-map c.args.pc l.cies.items l.fdes.items c.piece_cover.result (rw found first.value));
      within = rw (← c.self.view_is) (within-map l.cies.items l.fdes.items c.piece_cover.result (rw found first.within));
    }

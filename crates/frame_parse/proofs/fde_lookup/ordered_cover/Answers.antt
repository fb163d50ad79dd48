use Rattle.std.proofs.Common.{◌/◌, arith}
use Rattle.frame_parse.proofs.Lookups.{all_left, half_left, quarter_left}
use Rattle.frame_parse.proofs.fde_lookup.ordered_cover.Goals as goal

pub quarters-init : goal.quarters-init
quarters-init c = all_left c.args.ranges.now c.args.pc

pub quarters-preserved : goal.quarters-preserved
quarters-preserved c =
    let was = c.quarters in
    rw (c.begins-first.ensures, c.begins-second.ensures, c.begins-third.ensures) (quarter_left c.args.ranges.now c.args.pc was.base was.size (was.size / 4) _ c.requires was.invariant (omega arith) (omega arith))

pub halves-preserved : goal.halves-preserved
halves-preserved c =
    let was = c.halves in
    rw c.where_holds-base.ensures (half_left c.args.ranges.now c.args.pc was.base was.size (was.size / 2) _ c.requires was.invariant (omega arith) (omega arith))

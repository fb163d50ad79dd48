use Rattle.std.proofs.Common.{List, [], take_all, sym, subst, arith}
use Rattle.std.specs.List.{AllZip}
use Rattle.frame_rows.specs.declared.placed_row.PlacedRow.{PlacedRow}
use Rattle.frames_c.specs.Rows.{IsToldPlaced}
use Rattle.frames_c.specs.declared.row.FramesRow.{FramesRow}
use Rattle.frames_c.proofs.ToldRows.{one_more_row}
use Rattle.frames_c.proofs.told_rows.told_rows.Goals as goal

pub loop-row-init : goal.loop-row-init
loop-row-init c = subst (λ (l : List FramesRow). AllZip IsToldPlaced [] l) (sym c.in_ok-all.ensures.items) tt

pub loop-row-preserved : goal.loop-row-preserved
loop-row-preserved c =
    let was = c.loop-row in
    one_more_row c.args.rows.now was.all.items _ was.row-index _ c.told_row.result c.loop-row-test.true was.invariant c.told_row.ensures c.in_ok-push.ensures.items

pub returns : goal.returns
returns c =
    let was = c.loop-row in
    subst (λ (l : List PlacedRow). AllZip IsToldPlaced l was.all.items) (take_all was.row-index c.args.rows.now (omega (arith, c.loop-row-test.false))) was.invariant

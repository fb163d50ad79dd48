use Rattle.std.proofs.Common.{arith}
use Rattle.std.proofs.lemmas.Slice.Zip.{AllZip-long}
use Rattle.frames_c.specs.Rows.{IsToldPlaced}
use Rattle.frames_c.proofs.ToldRows.{none_covers, row_of_number}
use Rattle.frames_c.proofs.row_share.copy_row.Goals as goal

pub bounds-told-number : goal.bounds-told-number
bounds-told-number c =
    let within = c.in-Some.ensures.has.within in
    omega (arith, within, AllZip-long IsToldPlaced c.args.table.now.rows.distinct c.args.told.now c.requires.told)

pub offset_bounds-told-number : goal.offset_bounds-told-number
offset_bounds-told-number c =
    let within = c.in-Some.ensures.has.within in
    omega (arith, within, AllZip-long IsToldPlaced c.args.table.now.rows.distinct c.args.told.now c.requires.told)

pub returns-in-None : goal.returns-in-None
returns-in-None c = none_covers c.args.section.now c.args.pc c.args.out.now c.in-None.ensures

pub returns-in-Some : goal.returns-in-Some
returns-in-Some c = row_of_number c.args.section.now c.args.pc c.in-Some.number c.args.table.now.rows.distinct c.args.told.now _ c.args.out.now c.in-Some.ensures c.requires.told

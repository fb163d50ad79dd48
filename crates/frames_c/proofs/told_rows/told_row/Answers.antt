use Rattle.frames_c.proofs.ToldRows.{placed_is_told}
use Rattle.frames_c.proofs.told_rows.told_row.Goals as goal

pub returns : goal.returns
returns c =
    let told = c.told_cfa-cfa in
    placed_is_told c.args.row.now told.result.0 told.result.1 told.result.2 c.tell_columns.new.kinds c.tell_columns.new.numbers told.ensures.kind told.ensures.column told.ensures.offset c.tell_columns.ensures.told

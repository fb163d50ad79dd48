use Rattle.frames_c.proofs.ToldRows.{row_is_told}
use Rattle.frames_c.proofs.row.tell.Goals as goal

pub returns : goal.returns
returns c =
    let told = c.told_cfa-kind in
    row_is_told c.cfa.result (λ e. e.bytes.now) c.args.row.now told.result.0 told.result.1 told.result.2 c.tell_columns.new.kinds c.tell_columns.new.numbers told.ensures.kind told.ensures.column told.ensures.offset c.cfa.ensures c.tell_columns.ensures.told

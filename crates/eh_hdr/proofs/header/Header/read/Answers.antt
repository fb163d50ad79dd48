use Rattle.std.proofs.lemmas.Result.{err_from_is_err_and}
use Rattle.eh_hdr.proofs.Headers.{header_given, refusal_given, at_front}
use Rattle.eh_hdr.proofs.Tables.{header_is_sorted}
use Rattle.eh_hdr.proofs.header.Header.read.Goals as goal

pub returns-in_err-table-clause-refused : goal.returns-in_err-table-clause-refused
returns-in_err-table-clause-refused c =
    let start = at_front c.args.bytes.now c.new-cursor.result c.new-cursor.ensures.bytes c.new-cursor.ensures.place in
    let p = err_from_is_err_and c.from_residual.result c.from_residual.ensures.1 in
    rw (p.1, p.2) (refusal_given c.args.address c.args.section.now c.args.bytes.now c.in_err-table.field-0.0 c.new-cursor.result start c.in_err-table.ensures)

pub invariant_of-result : goal.invariant_of-result
invariant_of-result c =
    let start = at_front c.args.bytes.now c.new-cursor.result c.new-cursor.ensures.bytes c.new-cursor.ensures.place in
    header_is_sorted c.args.address c.args.section.now c.args.bytes.now _ (header_given c.args.address c.args.section.now c.args.bytes.now _ c.new-cursor.result _ start c.in_ok-table.ensures)

pub returns-clause-found : goal.returns-clause-found
returns-clause-found c =
    let start = at_front c.args.bytes.now c.new-cursor.result c.new-cursor.ensures.bytes c.new-cursor.ensures.place in
    header_given c.args.address c.args.section.now c.args.bytes.now _ c.new-cursor.result _ start c.in_ok-table.ensures

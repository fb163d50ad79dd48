use Rattle.std.proofs.Common.{◌<◌, ◌≤◌, length, Ok, Err, arith}
use Rattle.std.proofs.lemmas.Result.{err_from_is_err_and}
use Rattle.frame_expr.proofs.Going.{at_depth, fits_on, one_on, shorter_on, stops_on, no_fault, at_last}
use Rattle.frame_expr.proofs.evaluate.value.Goals as goal

pub apply-requires : goal.apply-requires
apply-requires g c =
    let read = at_depth c.len.result (length c.loop-cursor.stack) c.loop-cursor.cursor (Ok ((c.in-Ok.operation, c.in-Ok.field-0-1), c.next.new.cursor)) c.len.ensures c.in-Ok.ensures in
    fits_on c.loop-cursor.stack c.loop-cursor.cursor c.in-Ok.operation c.in-Ok.field-0-1 c.next.new.cursor read

pub loop-cursor-smaller : goal.loop-cursor-smaller
loop-cursor-smaller g c =
    let read = at_depth c.len.result (length c.loop-cursor.stack) c.loop-cursor.cursor (Ok ((c.in-Ok.operation, c.in-Ok.field-0-1), c.next.new.cursor)) c.len.ensures c.in-Ok.ensures in
    shorter_on c.loop-cursor.stack c.loop-cursor.cursor c.in-Ok.operation c.in-Ok.field-0-1 c.next.new.cursor read

pub loop-cursor-preserved : goal.loop-cursor-preserved
loop-cursor-preserved g c =
    let some : 0 < length c.loop-cursor.cursor.bytes = omega (arith, c.left.ensures, c.loop-cursor-test.true) in
    let read = at_depth c.len.result (length c.loop-cursor.stack) c.loop-cursor.cursor (Ok ((c.in-Ok.operation, c.in-Ok.field-0-1), c.next.new.cursor)) c.len.ensures c.in-Ok.ensures in
    one_on g.row.DEPTH c.args.expr.now.bytes.now c.args.regs.now.columns (g.M.WordSource.regions c.args.memory.now) c.args.start c.loop-cursor.cursor c.loop-cursor.stack c.in-Ok.operation c.in-Ok.field-0-1 c.next.new.cursor c.apply.new.stack c.loop-cursor.invariant some read c.in_ok-apply-in-Ok.ensures

pub returns-in_err-apply-in-Ok : goal.returns-in_err-apply-in-Ok
returns-in_err-apply-in-Ok g c =
    let some : 0 < length c.loop-cursor.cursor.bytes = omega (arith, c.left.ensures, c.loop-cursor-test.true) in
    let read = at_depth c.len.result (length c.loop-cursor.stack) c.loop-cursor.cursor (Ok ((c.in-Ok.operation, c.in-Ok.field-0-1), c.next.new.cursor)) c.len.ensures c.in-Ok.ensures in
    let reported = stops_on g.row.DEPTH c.args.expr.now.bytes.now c.args.regs.now.columns (g.M.WordSource.regions c.args.memory.now) c.args.start c.loop-cursor.cursor c.loop-cursor.stack c.in-Ok.operation c.in-Ok.field-0-1 c.next.new.cursor c.in_err-apply-in-Ok.field-0.0 c.loop-cursor.invariant some read c.in_err-apply-in-Ok.ensures in
    let p = err_from_is_err_and c.from_residual.result c.from_residual.ensures.1 in
    rw (p.1, p.2) reported

pub returns-in-Err : goal.returns-in-Err
returns-in-Err g c =
    let some : 0 < length c.loop-cursor.cursor.bytes = omega (arith, c.left.ensures, c.loop-cursor-test.true) in
    let read = at_depth c.len.result (length c.loop-cursor.stack) c.loop-cursor.cursor (Err c.in-Err.field-0) c.len.ensures c.in-Err.ensures in
    absurd (no_fault g.row.DEPTH c.args.expr.now.bytes.now c.args.regs.now.columns (g.M.WordSource.regions c.args.memory.now) c.args.start c.loop-cursor.cursor c.loop-cursor.stack c.in-Err.field-0 c.loop-cursor.invariant some read)

pub entry-requires : goal.entry-requires
entry-requires g c =
    let none : length c.loop-cursor.cursor.bytes ≤ 0 = omega (arith, c.left.ensures, c.loop-cursor-test.false) in
    (at_last g.row.DEPTH c.args.expr.now.bytes.now c.args.regs.now.columns (g.M.WordSource.regions c.args.memory.now) c.args.start c.loop-cursor.cursor c.loop-cursor.stack c.loop-cursor.invariant none).1

pub returns : goal.returns
returns g c =
    let none : length c.loop-cursor.cursor.bytes ≤ 0 = omega (arith, c.left.ensures, c.loop-cursor-test.false) in
    rw c.entry.ensures (at_last g.row.DEPTH c.args.expr.now.bytes.now c.args.regs.now.columns (g.M.WordSource.regions c.args.memory.now) c.args.start c.loop-cursor.cursor c.loop-cursor.stack c.loop-cursor.invariant none).0

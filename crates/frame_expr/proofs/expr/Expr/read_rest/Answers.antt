use Rattle.std.proofs.Common.{◌≡◌, ℕ, ◌<◌, ◌≤◌, List, length, true, Ok, Err, sym, ap, ◌∙◌, subst, arith}
use Rattle.std.proofs.lemmas.Result.{err_from_is_err_and}
use Rattle.frame_expr.specs.declared.fault.ExprFault.TheVariants.{Depth}
use Rattle.frame_expr.specs.Expressions.{is_expression}
use Rattle.frame_expr.proofs.Parts.{read_on, read_refused, read_empty, read_whole, is_read}
use Rattle.frame_expr.proofs.expr.Expr.read_rest.Goals as goal

pub loop-cursor-smaller : goal.loop-cursor-smaller
loop-cursor-smaller g c =
    let some : 0 < length c.loop-cursor.cursor.bytes = omega (arith, c.left.ensures, c.loop-cursor-test.true) in
    (read_on g.row.DEPTH c.args.cursor.now c.loop-cursor.cursor c.loop-cursor.entries (c.in_ok-after.field-0-0, c.in_ok-after.after) c.next.new.cursor c.loop-cursor.invariant.0 some c.in_ok-after.ensures).2

pub loop-cursor-preserved : goal.loop-cursor-preserved
loop-cursor-preserved g c =
    let some : 0 < length c.loop-cursor.cursor.bytes = omega (arith, c.left.ensures, c.loop-cursor-test.true) in
    let on = read_on g.row.DEPTH c.args.cursor.now c.loop-cursor.cursor c.loop-cursor.entries (c.in_ok-after.field-0-0, c.in_ok-after.after) c.next.new.cursor c.loop-cursor.invariant.0 some c.in_ok-after.ensures in
    (on.0, on.1)

pub returns-in_err-after : goal.returns-in_err-after
returns-in_err-after g c =
    let some : 0 < length c.loop-cursor.cursor.bytes = omega (arith, c.left.ensures, c.loop-cursor-test.true) in
    let refused = read_refused g.row.DEPTH c.args.cursor.now c.loop-cursor.cursor c.loop-cursor.entries c.in_err-after.field-0.0 c.loop-cursor.invariant.0 some c.in_err-after.ensures in
    let p = err_from_is_err_and c.from_residual.result c.from_residual.ensures.1 in
    rw (p.1, p.2) refused

pub returns-then-entries-eq0 : goal.returns-then-entries-eq0
returns-then-entries-eq0 g c =
    let none : length c.loop-cursor.cursor.bytes ≤ 0 = omega (arith, c.left.ensures, c.loop-cursor-test.false) in
    let refused = read_empty g.row.DEPTH c.args.cursor.now c.loop-cursor.cursor c.loop-cursor.entries c.loop-cursor.invariant.0 none c.if-entries-eq0.true in
    refused ∙ ap (λ (p : ℕ). Err (Depth p)) (sym c.at.ensures)

pub invariant_of-result : goal.invariant_of-result
invariant_of-result g c =
    let none : length c.loop-cursor.cursor.bytes ≤ 0 = omega (arith, c.left.ensures, c.loop-cursor-test.false) in
    let some : 0 < c.loop-cursor.entries = omega (arith, c.if-entries-eq0.false) in
    let read = read_whole g.row.DEPTH c.args.cursor.now c.loop-cursor.cursor c.loop-cursor.entries c.loop-cursor.invariant.0 none some in
    let ok = is_read g.row.DEPTH c.args.cursor.now c.loop-cursor.cursor c.args.cursor.now.bytes read in
    record { spelled = subst (λ (l : List ℕ). is_expression g.row.DEPTH l ≡ true) (sym c.rest-bytes.ensures) ok }

pub returns : goal.returns
returns g c =
    let none : length c.loop-cursor.cursor.bytes ≤ 0 = omega (arith, c.left.ensures, c.loop-cursor-test.false) in
    let some : 0 < c.loop-cursor.entries = omega (arith, c.if-entries-eq0.false) in
    let read = read_whole g.row.DEPTH c.args.cursor.now c.loop-cursor.cursor c.loop-cursor.entries c.loop-cursor.invariant.0 none some in
    read ∙ ap (λ (l : List ℕ). Ok (l, c.loop-cursor.cursor)) (sym c.rest-bytes.ensures)

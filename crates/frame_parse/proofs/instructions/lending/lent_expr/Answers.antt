use Rattle.std.proofs.Common.{◌≡◌, ◌+◌, ℕ, List, length, take, arith, sym, ap, subst, ◌∙◌}
use Rattle.frame_expr.specs.Expressions.{expression}
use Rattle.frame_parse.proofs.Blocks.{is_lent, is_read}
use Rattle.frame_parse.proofs.instructions.lending.lent_expr.Goals as goal

pub slice_bounds-of_read-end : goal.slice_bounds-of_read-end
slice_bounds-of_read-end g c =
    let has = c.requires in
    let lent = is_lent g.row.DEPTH c.args.bytes.now c.args.block has c.new-cursor.result c.uleb.new.self c.in-Ok.length c.new-cursor.ensures.bytes c.new-cursor.ensures.place c.in-Ok.ensures in
    subst (λ (rest : List ℕ). c.in-Ok.length ≡ length (take c.in-Ok.length rest)) (sym c.rest.ensures) lent.all

pub of_read-requires : goal.of_read-requires
of_read-requires g c =
    let has = c.requires in
    let lent = is_lent g.row.DEPTH c.args.bytes.now c.args.block has c.new-cursor.result c.uleb.new.self c.in-Ok.length c.new-cursor.ensures.bytes c.new-cursor.ensures.place c.in-Ok.ensures in
    let text : take c.in-Ok.length c.rest.result.now ≡ has.text = ap (take c.in-Ok.length) c.rest.ensures ∙ lent.block in
    (omega arith, (c.args.block + length has.size, subst (λ (l : List ℕ). (expression g.row.DEPTH).Spells (c.args.block + length has.size) l l) (sym text) has.spelled))

pub unreachable-requires : goal.unreachable-requires
unreachable-requires g c =
    let has = c.requires in
    is_read g.row.DEPTH c.args.bytes.now c.args.block has c.new-cursor.result c.in-Err.field-0 c.new-cursor.ensures.bytes c.new-cursor.ensures.place c.in-Err.ensures.0

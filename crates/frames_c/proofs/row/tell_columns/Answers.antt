use Rattle.std.proofs.Common.{◌∙◌, length-set, arith}
use Rattle.frames_c.proofs.ToldRows.{one_more_told}
use Rattle.frames_c.proofs.row.tell_columns.Goals as goal

pub loop-column-preserved : goal.loop-column-preserved
loop-column-preserved c =
    let was = c.loop-column in
    let kind = c.told-kind.result.0 in
    let number = c.told-kind.result.1 in record {
      told =
          one_more_told c.rule.result (λ e. e.bytes.now) c.args.row.now was.column kind number was.kinds was.numbers was.invariant.told (omega (arith, was.invariant.kinds, c.loop-column-test.true)) (omega (arith, was.invariant.numbers, c.loop-column-test.true))
          c.told-kind.ensures.kind c.told-kind.ensures.number c.rule.ensures;
      kinds = length-set was.kinds was.column kind ∙ was.invariant.kinds;
      numbers = length-set was.numbers was.column number ∙ was.invariant.numbers;
    }

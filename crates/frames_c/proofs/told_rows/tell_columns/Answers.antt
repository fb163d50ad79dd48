use Rattle.std.proofs.Common.{◌∙◌, length-set, arith}
use Rattle.frame_parse.specs.Blocks.{block_in}
use Rattle.frame_rows.specs.Rules.{lent_row}
use Rattle.frames_c.proofs.ToldRows.{one_more_told, rule_lent}
use Rattle.frames_c.proofs.told_rows.tell_columns.Goals as goal

pub loop-column-init : goal.loop-column-init
loop-column-init c = record {
  told = λ bytes. record { kind = λ r lt. absurd (omega arith); number = λ r lt. absurd (omega arith) };
  kinds = c.requires.kinds;
  numbers = c.requires.numbers;
}

pub loop-column-preserved : goal.loop-column-preserved
loop-column-preserved c =
    let was = c.loop-column in
    let row = c.args.row.now in
    let rule = c.rule_of.result in
    let kind = c.told-kind.result.0 in
    let number = c.told-kind.result.1 in record {
      told = λ bytes.
          one_more_told rule (block_in bytes) (lent_row bytes row) was.column kind number was.kinds was.numbers (was.invariant.told bytes) (omega (arith, was.invariant.kinds, c.loop-column-test.true)) (omega (arith, was.invariant.numbers, c.loop-column-test.true))
          c.told-kind.ensures.kind c.told-kind.ensures.number (rule_lent bytes row was.column rule c.rule_of.ensures);
      kinds = length-set was.kinds was.column kind ∙ was.invariant.kinds;
      numbers = length-set was.numbers was.column number ∙ was.invariant.numbers;
    }

use Rattle.std.proofs.Common.{◌^◌, sym, ◌∙◌, arith}
use Rattle.script_text.proofs.Numbers.{narrow_some, narrow_over, narrow_none}
use Rattle.script_text.proofs.fields.decimal_in.Goals as goal

pub returns-in_err-number : goal.returns-in_err-number
returns-in_err-number c = c.from_residual.ensures ∙ sym (narrow_none 10 (10 ^ 10) (2 ^ 32) c.args.field.now (sym c.in_err-number.ensures) (omega arith))

pub returns-then-number : goal.returns-then-number
returns-then-number c = sym (narrow_some 10 (10 ^ 10) (2 ^ 32) c.in_ok-number.number c.args.field.now (sym c.in_ok-number.ensures) (omega arith))

pub returns-else-number : goal.returns-else-number
returns-else-number c = sym (narrow_over 10 (10 ^ 10) (2 ^ 32) c.in_ok-number.number c.args.field.now (sym c.in_ok-number.ensures) (omega arith))

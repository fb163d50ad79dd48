use Rattle.std.proofs.Common.{arith}
use Rattle.script_text.proofs.DigitTable.{table_value}
use Rattle.script_text.proofs.fields.digit_of.Goals as goal

pub returns : goal.returns
returns c = table_value c.args.byte (omega arith)

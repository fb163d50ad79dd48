use Rattle.std.proofs.Common.{List, subst}
use Rattle.std.proofs.lemmas.List.{take_all}
use Rattle.receipt_check.specs.declared.account.Told.{Told}
use Rattle.receipt_check.specs.Sweep.{AreLines}
use Rattle.receipt_check.proofs.LeastLines.{lines_more}
use Rattle.receipt_check.proofs.numbers.lines_of.Goals as goal

pub loop-row-preserved : goal.loop-row-preserved
loop-row-preserved c = lines_more c.args.told.now c.loop-row.row-index c.row-item.result c.loop-row.lines c.put_line.new.lines c.loop-row-test.true c.row-item.is c.in_ok-put_line.ensures c.loop-row.invariant

pub returns : goal.returns
returns c = subst (λ (told : List Told). AreLines told c.loop-row.lines) (take_all c.loop-row.row-index c.args.told.now c.loop-row-test.false) c.loop-row.invariant

use Rattle.std.proofs.Common.{List, subst, rules}
use Rattle.std.proofs.lemmas.List.{take_all}
use Rattle.receipt_check.specs.declared.account.Told.{Told}
use Rattle.receipt_check.specs.Flaws.{told_receipts}
use Rattle.receipt_check.specs.Sweep.{AreByNumber}
use Rattle.receipt_check.proofs.ByNumber.{places_none, places_more}
use Rattle.receipt_check.proofs.history.places_of.Goals as goal

pub loop-row-init : goal.loop-row-init
loop-row-init c = rw (c.in_ok-places.ensures.items_if_clones_equal (search rules)) (places_none c.args.updates)

pub loop-row-preserved : goal.loop-row-preserved
loop-row-preserved c = places_more c.args.told.now c.loop-row.row-index c.row-item.result c.args.updates c.loop-row.places.items c.put.new.places.items c.loop-row-test.true c.row-item.is c.put.ensures.length c.put.ensures.each c.loop-row.invariant

pub returns : goal.returns
returns c = subst (λ (told : List Told). AreByNumber (told_receipts told) c.args.updates c.loop-row.places.items) (take_all c.loop-row.row-index c.args.told.now c.loop-row-test.false) c.loop-row.invariant

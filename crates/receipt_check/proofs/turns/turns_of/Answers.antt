use Rattle.std.proofs.Common.{List, refl, subst}
use Rattle.std.proofs.lemmas.List.{take_all}
use Rattle.receipt_check.specs.declared.account.Told.{Told}
use Rattle.receipt_check.specs.Sweep.{AreTurns}
use Rattle.receipt_check.proofs.InTurn.{no_turns, turns_more}
use Rattle.receipt_check.proofs.turns.turns_of.Goals as goal

pub loop-row-init : goal.loop-row-init
loop-row-init c = rw c.in_ok-turns.ensures.items no_turns

pub loop-row-preserved : goal.loop-row-preserved
loop-row-preserved c =
    rw c.in_ok-push.ensures.items (turns_more c.args.told.now c.loop-row.row-index c.row-item.result c.loop-row.turns.items _ c.loop-row-test.true c.row-item.is refl c.before-before.ensures c.loop-row.invariant)

pub returns : goal.returns
returns c = subst (λ (told : List Told). AreTurns told c.loop-row.turns.items) (take_all c.loop-row.row-index c.args.told.now c.loop-row-test.false) c.loop-row.invariant

use Rattle.std.proofs.Common.{◌↔◌, ℕ, List, IsTrue, ap, subst, arith}
use Rattle.std.proofs.lemmas.List.{length-map}
use Rattle.reg_model.specs.Receipt.{Holds}
use Rattle.reg_model.specs.declared.answer.Update.{Update}
use Rattle.receipt_check.specs.Flaws.{AccountData, HoldsAsTold, since_of}
use Rattle.receipt_check.specs.Sweep.{rows_of}
use Rattle.receipt_check.proofs.Sought.{sought_more, sought_all, sought_moved}
use Rattle.receipt_check.proofs.InTurn.{stands_first, reached, row_here}
use Rattle.receipt_check.proofs.answers.first_wrong.Goals as goal

pub loop-turn-init : goal.loop-turn-init
loop-turn-init c = record { stands = stands_first _ _ _ _ (rw (← c.account.view_is) (rw c.deref.ensures.value at (c.in_ok-present.ensures.present c.args.history.now))) c.in_ok-present.ensures.none; sought = λ k d never. absurd (omega arith) }

pub loop-turn-preserved : goal.loop-turn-preserved
loop-turn-preserved c =
    let a = c.args.account.now in
    let turn = c.turn-item.result in
    let at = reached _ _ _ c.loop-turn-test.true c.turn-item.is _ c.requires.turns a.start _ _ _ c.loop-turn.invariant.stands c.in_ok-go_on.ensures in
    let holds = c.holds.ensures a.start at.present at.made in
    let nodes = ap (λ (v : AccountData). v.nodes) c.account.view_is in
    let told = subst (λ (h : List Update). IsTrue c.holds.result ↔ Holds a.start h a.nodes turn.row.now.callers (since_of turn.row.now) turn.row.now.receipt) c.requires.history (subst (λ (n : ℕ). IsTrue c.holds.result ↔ Holds a.start c.args.history.now n turn.row.now.callers (since_of turn.row.now) turn.row.now.receipt) nodes holds) in
    record {
      stands = at.next;
      sought = rw c.lower-first.ensures (sought_more (HoldsAsTold a) (rows_of c.args.turns.now) c.loop-turn.turn-index turn.row.now c.loop-turn.first c.holds.result (rw length-map c.loop-turn-test.true) (row_here _ _ turn c.loop-turn-test.true c.turn-item.is) told c.loop-turn.invariant.sought);
    }

pub returns : goal.returns
returns c =
    let rows = rows_of c.args.turns.now in
    sought_moved (HoldsAsTold c.args.account.now) c.args.account.now.told rows c.loop-turn.first c.requires.turns.rows (sought_all (HoldsAsTold c.args.account.now) rows c.loop-turn.turn-index c.loop-turn.first (rw length-map c.loop-turn-test.false) c.loop-turn.invariant.sought)

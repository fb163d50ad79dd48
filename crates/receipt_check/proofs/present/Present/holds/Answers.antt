use Rattle.reg_model.specs.History.{state_at}
use Rattle.reg_model.specs.Receipt.{made_before}
use Rattle.receipt_check.proofs.States.{state_there, holds_now}
use Rattle.receipt_check.proofs.present.Present.holds.Goals as goal

pub returns : goal.returns
returns c = λ start present made.
    let before = made_before c.args.row.now.receipt in
    let told = c.holds_now.ensures (state_at start c.args.history.now before) (state_there start c.args.history.now c.args.self.now before present made) in
    let same = holds_now start c.args.history.now c.args.nodes c.args.self.now c.args.row.now present made in
    (λ is. same.0 (told.0 is), λ holds. told.1 (same.1 holds))

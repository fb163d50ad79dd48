use Rattle.reg_model.proofs.Receipts.{step_holds}
use Rattle.reg_model.proofs.laws.answers_hold.Goals as goal

pub returns : goal.returns
returns c = step_holds

use Rattle.reg_model.proofs.Histories.{lawful_history}
use Rattle.reg_model.proofs.laws.histories_are_lawful.Goals as goal

pub returns : goal.returns
returns c = lawful_history

use Rattle.reg_model.proofs.Numbers.{history_of_is}
use Rattle.reg_model.proofs.laws.numbers_tell_histories.Goals as goal

pub returns : goal.returns
returns c = history_of_is

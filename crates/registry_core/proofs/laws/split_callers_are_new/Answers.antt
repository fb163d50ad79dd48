use Rattle.registry_core.proofs.Rounding.{all_new}
use Rattle.registry_core.proofs.laws.split_callers_are_new.Goals as goal

pub returns : goal.returns
returns c k gives = all_new gives k

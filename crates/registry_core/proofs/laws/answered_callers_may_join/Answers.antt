use Rattle.registry_core.proofs.Rounding.{may_all_join}
use Rattle.registry_core.proofs.laws.answered_callers_may_join.Goals as goal

pub returns : goal.returns
returns c = may_all_join

use Rattle.registry_core.proofs.Comparing.{comparable}
use Rattle.registry_core.proofs.laws.whole_logs_are_comparable.Goals as goal

pub returns : goal.returns
returns c = comparable

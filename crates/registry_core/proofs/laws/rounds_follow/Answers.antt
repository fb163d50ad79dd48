use Rattle.registry_core.proofs.Rounding.{after_round}
use Rattle.registry_core.proofs.laws.rounds_follow.Goals as goal

pub returns : goal.returns
returns c = after_round

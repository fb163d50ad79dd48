use Rattle.registry_core.proofs.Following.{answered_both, answered_none, chain_answered}
use Rattle.registry_core.proofs.laws.calls_follow.Goals as goal

pub returns : goal.returns
returns c = record { none = answered_none; more = answered_both; chain = chain_answered }

use Rattle.tree_laws.proofs.Roots.{lifts}
use Rattle.tree_laws.proofs.RootSplits.{lift_split_keeps}
use Rattle.tree_laws.proofs.laws.lift.Goals as goal

pub returns-clause-lifted : goal.returns-clause-lifted
returns-clause-lifted c f live fresh g lawful = lifts f live lawful fresh g

pub returns-clause-split : goal.returns-clause-split
returns-clause-split c f live moved h p fresh g lawful lift = lift_split_keeps f live lawful moved h lift p fresh g

use Rattle.tree_laws.proofs.Leaves.{take_takes, take_changes}
use Rattle.tree_laws.proofs.laws.take.Goals as goal

pub returns-clause-taken : goal.returns-clause-taken
returns-clause-taken c f live leaf base member g lawful = take_takes f live lawful leaf base member g

pub returns-clause-change : goal.returns-clause-change
returns-clause-change c f live leaf base member g lawful = take_changes f live lawful leaf base member g

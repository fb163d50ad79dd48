use Rattle.tree_laws.proofs.Joins.{join_keeps, join_changes}
use Rattle.tree_laws.proofs.laws.join.Goals as goal

pub returns-clause-kept : goal.returns-clause-kept
returns-clause-kept c f live parent slot p q g lawful = join_keeps f live lawful parent slot p q g

pub returns-clause-change : goal.returns-clause-change
returns-clause-change c f live parent slot p q g lawful = join_changes f live lawful parent slot p q g

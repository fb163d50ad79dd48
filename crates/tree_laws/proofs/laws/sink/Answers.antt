use Rattle.tree_laws.proofs.Roots.{sink_keeps, sink_changes}
use Rattle.tree_laws.proofs.laws.sink.Goals as goal

pub returns-clause-kept : goal.returns-clause-kept
returns-clause-kept c f live p q g lawful = sink_keeps f live lawful p q g

pub returns-clause-change : goal.returns-clause-change
returns-clause-change c f live p q g lawful = sink_changes f live lawful p q g

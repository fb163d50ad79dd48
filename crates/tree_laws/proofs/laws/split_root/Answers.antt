use Rattle.tree_laws.proofs.RootSplits.{root_split_keeps, root_split_changes}
use Rattle.tree_laws.proofs.laws.split_root.Goals as goal

pub returns-clause-kept : goal.returns-clause-kept
returns-clause-kept c f live left right g lawful = root_split_keeps f live lawful left right g

pub returns-clause-change : goal.returns-clause-change
returns-clause-change c f live left right g lawful = root_split_changes f live lawful left right g

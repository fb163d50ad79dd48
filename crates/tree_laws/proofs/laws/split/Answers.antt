use Rattle.tree_laws.proofs.Splits.{split_keeps, split_changes}
use Rattle.tree_laws.proofs.laws.split.Goals as goal

pub returns-clause-kept : goal.returns-clause-kept
returns-clause-kept c f live parent slot p fresh g lawful = split_keeps f live lawful parent slot p fresh g

pub returns-clause-change : goal.returns-clause-change
returns-clause-change c f live parent slot p fresh g lawful = split_changes f live lawful parent slot p fresh g

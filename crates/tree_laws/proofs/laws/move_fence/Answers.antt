use Rattle.tree_laws.proofs.Fences.{move_keeps}
use Rattle.tree_laws.proofs.FenceChange.{move_changes}
use Rattle.tree_laws.proofs.laws.move_fence.Goals as goal

pub returns-clause-kept : goal.returns-clause-kept
returns-clause-kept c f live parent slot p q fence g lawful = move_keeps f live lawful parent slot p q fence g

pub returns-clause-change : goal.returns-clause-change
returns-clause-change c f live parent slot p q fence g lawful = move_changes f live lawful parent slot p q fence g

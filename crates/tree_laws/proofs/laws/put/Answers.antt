use Rattle.tree_laws.proofs.Leaves.{put_adds, put_changes}
use Rattle.tree_laws.proofs.laws.put.Goals as goal

pub returns-clause-added : goal.returns-clause-added
returns-clause-added c f live leaf member g lawful = put_adds f live lawful leaf member g

pub returns-clause-change : goal.returns-clause-change
returns-clause-change c f live leaf member g lawful = put_changes f live lawful leaf member g

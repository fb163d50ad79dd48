use Rattle.tree_laws.proofs.Leaves.{replace_changes}
use Rattle.tree_laws.proofs.laws.replace.Goals as goal

pub returns : goal.returns
returns c f live leaf member g lawful = replace_changes f live lawful leaf member g

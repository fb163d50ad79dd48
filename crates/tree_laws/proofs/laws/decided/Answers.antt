use Rattle.tree_laws.proofs.Deciding.{lawful_decides}
use Rattle.tree_laws.proofs.laws.decided.Goals as goal

pub returns : goal.returns
returns c = lawful_decides

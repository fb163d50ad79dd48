use Rattle.tree_laws.proofs.Agreement.{agreed}
use Rattle.tree_laws.proofs.laws.agreement.Goals as goal

pub returns : goal.returns
returns c = agreed

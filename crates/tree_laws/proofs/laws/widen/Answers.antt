use Rattle.tree_laws.proofs.Transfers.{wider_lawful, wider_reached}
use Rattle.tree_laws.proofs.laws.widen.Goals as goal

pub returns-clause-lawful : goal.returns-clause-lawful
returns-clause-lawful c = wider_lawful

pub returns-clause-reached : goal.returns-clause-reached
returns-clause-reached c = wider_reached

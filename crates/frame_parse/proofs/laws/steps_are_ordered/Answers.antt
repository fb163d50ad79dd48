use Rattle.frame_parse.proofs.Orders.{ordered, lent_ordered}
use Rattle.frame_parse.proofs.laws.steps_are_ordered.Goals as goal

pub returns-clause-lent : goal.returns-clause-lent
returns-clause-lent c = lent_ordered

pub returns-clause-placed : goal.returns-clause-placed
returns-clause-placed c = ordered

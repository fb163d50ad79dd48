use Rattle.tree_laws.proofs.Wholes.{entries_are, entries_in_order}
use Rattle.tree_laws.proofs.laws.order.Goals as goal

pub returns-clause-entries : goal.returns-clause-entries
returns-clause-entries c f live m tree = entries_are f live tree m

pub returns-clause-ascending : goal.returns-clause-ascending
returns-clause-ascending c = entries_in_order

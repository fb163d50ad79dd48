use Rattle.tree_laws.proofs.Wholes.{lookup_leaf, lookup_finds}
use Rattle.tree_laws.proofs.laws.lookup.Goals as goal

pub returns-clause-leaf : goal.returns-clause-leaf
returns-clause-leaf c f live pc tree = lookup_leaf f live tree pc

pub returns-clause-found : goal.returns-clause-found
returns-clause-found c f live pc m tree inside = lookup_finds f live tree pc inside m

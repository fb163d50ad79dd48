use Rattle.tree_laws.proofs.Living.{root_live, live_children, never_root}
use Rattle.tree_laws.proofs.laws.children.Goals as goal

pub returns : goal.returns
returns c = record { root = root_live; live = live_children; never_root = never_root }

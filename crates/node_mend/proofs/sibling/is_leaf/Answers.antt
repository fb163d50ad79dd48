use Rattle.std.proofs.Common.{◌==◌, ◌∙◌, ap}
use Rattle.node_mend.proofs.HeldOutlines.{leaf_is}
use Rattle.node_mend.proofs.sibling.is_leaf.Goals as goal

pub returns : goal.returns
returns c = ap (λ m. m == 0) c.level.ensures ∙ leaf_is c.args.node.now c.args.node.now.body c.requires

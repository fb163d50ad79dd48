use Rattle.std.proofs.Common.{arith, ap, length}
use Rattle.tree_shape.proofs.Parts.{divided}
use Rattle.tree_shape.proofs.edits.put_pair.Goals as goal

pub returns : goal.returns
returns c = let e = divided c.pairs-pairs.result.now c.args.slot c.args.separator c.args.child record { child = 0; separator = 0 } (omega (arith, ap length c.pairs-pairs.ensures.value)) in cc

use Rattle.std.proofs.Common.{arith, ap, length}
use Rattle.tree_shape.proofs.Parts.{swallowed}
use Rattle.tree_shape.proofs.edits.drop_pair.Goals as goal

pub returns : goal.returns
returns c = let e = swallowed c.pairs-pairs.result.now c.args.slot record { child = 0; separator = 0 } (omega (arith, ap length c.pairs-pairs.ensures.value)) in cc

use Rattle.std.proofs.Common.{arith, ap, length}
use Rattle.tree_shape.proofs.Parts.{separated}
use Rattle.tree_shape.proofs.edits.set_separator.Goals as goal

pub returns : goal.returns
returns c = let e = separated c.pairs-pairs.result.now c.args.slot c.args.separator record { child = 0; separator = 0 } (omega (arith, ap length c.pairs-pairs.ensures.value)) in cc

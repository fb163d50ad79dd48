use Rattle.std.proofs.Common.{arith, length, refl, ◌+◌, ◌-◌}
use Rattle.std.proofs.lemmas.Slice.{take-put_mid}
use Rattle.tree_shape.proofs.array_front.put.Goals as goal

pub returns : goal.returns
returns g c =
    rw (c.copy_from_slice.ensures.after) (take-put_mid c.args.place (c.args.place + length c.args.items.now - c.args.place) c.args.row.now c.args.items.now (c.args.place + length c.args.items.now) refl (omega arith))

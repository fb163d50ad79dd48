use Rattle.std.proofs.Common.{◌++◌, arith}
use Rattle.std.proofs.lemmas.List.{append-nil}
use Rattle.tree_shape.proofs.Orders.{pairs_end-first}
use Rattle.tree_shape.proofs.split.cut_inner.Goals as goal

pub overflow_add-right : goal.overflow_add-right
overflow_add-right c = omega (arith, pairs_end-first c.args.n (c.args.first.now ++ c.args.last.now) c.item-fence.result c.requires.some c.item-fence.ensures)

pub returns-clause-left : goal.returns-clause-left
returns-clause-left c =
    let fence = pairs_end-first c.args.n (c.args.first.now ++ c.args.last.now) c.item-fence.result c.requires.some c.item-fence.ensures in
    let whole = append-nil (c.cut.result.0.0.now ++ c.cut.result.0.1.now) in
    cc

pub returns-clause-right : goal.returns-clause-right
returns-clause-right c =
    let fence = pairs_end-first c.args.n (c.args.first.now ++ c.args.last.now) c.item-fence.result c.requires.some c.item-fence.ensures in
    let whole = append-nil (c.cut.result.1.0.now ++ c.cut.result.1.1.now) in
    cc

use Rattle.std.proofs.Common.{◌++◌}
use Rattle.std.proofs.lemmas.List.{append-nil}
use Rattle.tree_shape.proofs.Orders.{entries_end-first}
use Rattle.tree_shape.proofs.split.cut_leaf.Goals as goal

pub returns-clause-left : goal.returns-clause-left
returns-clause-left c =
    let fence = entries_end-first c.args.n (c.args.first.now ++ c.args.last.now) c.item.result c.requires.some c.item.ensures in
    let whole = append-nil (c.cut.result.0.0.now ++ c.cut.result.0.1.now) in
    cc

pub returns-clause-right : goal.returns-clause-right
returns-clause-right c =
    let fence = entries_end-first c.args.n (c.args.first.now ++ c.args.last.now) c.item.result c.requires.some c.item.ensures in
    let whole = append-nil (c.cut.result.1.0.now ++ c.cut.result.1.1.now) in
    cc

use Rattle.std.proofs.Common.{◌≡◌, ◌<◌, ◌-◌, ◌^◌, ◌++◌, ◌∙◌, [], take, sym, subst, arith}
use Rattle.std.proofs.lemmas.List.{append-nil}
use Rattle.tree_shape.specs.NodeData.{pairs_of}
use Rattle.tree_shape.specs.Changes.{pairs_end}
use Rattle.tree_shape.proofs.Orders.{inner_order, pairs_end-inside}
use Rattle.tree_shape.proofs.split.split_inner.Goals as goal

pub cut_inner-requires-clause-below_top : goal.cut_inner-requires-clause-below_top
cut_inner-requires-clause-below_top c =
    let cut = inner_order c.args.node.now c.requires.inner c.requires.ordered in
    let inside = pairs_end-inside 0 0 c.args.node.now.high 6 (pairs_of c.args.node.now) cut (omega arith) in
    let below : pairs_end 0 (take 7 (pairs_of c.args.node.now)) < 2 ^ 64 - 1 = omega arith in
    let same : pairs_of c.args.node.now ≡ c.pairs.result.now ++ [] = sym (append-nil c.pairs.result.now ∙ c.pairs.ensures.value) in
    subst (λ pairs. pairs_end 0 (take 7 pairs) < 2 ^ 64 - 1) same below

use Rattle.std.proofs.Common.{◌≡◌, ◌<◌, ◌≤◌, ◌+◌, ◌-◌, ◌/◌, ◌^◌, ◌++◌, List, length, take, ap, subst, arith}
use Rattle.tree_shape.specs.declared.pair.Pair.{Pair}
use Rattle.tree_shape.specs.Changes.{pairs_end}
use Rattle.tree_shape.specs.NodeData.{NodeData, pairs_of}
use Rattle.tree_shape.proofs.Orders.{inner_order, inner_shares, shares_below}
use Rattle.tree_shape.proofs.join.even_pair.Goals as goal

pub cut_inner-requires : goal.cut_inner-requires
cut_inner-requires c =
    let is = ap (λ (s : NodeData). s.body) c.left.view_is in
    let inner = inner_shares c.left.inside.content c.args.left.now c.args.right.now is c.in_default.not-Leaf c.requires.overfill in
    let left = ap length c.pairs-first.ensures.value in
    let right = ap length c.pairs-last.ensures.value in
    let low : c.args.left.now.high + 1 ≤ 2 ^ 64 - 1 = omega arith in
    let below : pairs_end 0 (take ((length (pairs_of c.args.left.now) + length (pairs_of c.args.right.now)) / 2) (pairs_of c.args.left.now ++ pairs_of c.args.right.now)) < 2 ^ 64 - 1 =
    shares_below (pairs_of c.args.left.now) (pairs_of c.args.right.now) c.args.left.now.high c.args.right.now.high ((length (pairs_of c.args.left.now) + length (pairs_of c.args.right.now)) / 2)
    (inner_order c.args.left.now inner.1 c.requires.left_ordered) (inner_order c.args.right.now inner.2 c.requires.right_ordered) low (omega arith) (omega arith) in
    let same : ◌≡◌ {A = List Pair × List Pair} (pairs_of c.args.left.now, pairs_of c.args.right.now) (c.pairs-first.result.now, c.pairs-last.result.now) = cc in
    record {
      some = omega arith;
      left = omega arith;
      enough = omega arith;
      right = omega arith;
      below_top = subst (λ (ps : List Pair × List Pair). pairs_end 0 (take ((length ps.0 + length ps.1) / 2) (ps.0 ++ ps.1)) < 2 ^ 64 - 1) same below;
    }

use Rattle.std.proofs.Common.{◌<◌, length, ap, arith, ◌∙◌, sym}
use Rattle.std.proofs.lemmas.Bool.{eqb-false}
use Rattle.tree_shape.specs.NodeData.{pairs_of}
use Rattle.tree_shape.proofs.Orders.{ends_at-inner}
use Rattle.tree_shape.proofs.Parts.{raised}
use Rattle.tree_shape.proofs.join.raised_content.Goals as goal

pub returns-clause-body : goal.returns-clause-body
returns-clause-body c =
    let there = eqb-false (length c.pairs-pairs.result.now) 0 (sym c.is_empty.ensures ∙ c.if-is_empty.false) in
    let some : 0 < length c.pairs-pairs.result.now = omega arith in
    let some_of : 0 < length (pairs_of c.args.node.now) = omega (arith, ap length c.pairs-pairs.ensures.value) in
    let whole = ends_at-inner c.args.fence c.args.node.now.body some_of in
    let last = raised c.args.fence c.pairs-pairs.result.now record { child = 0; separator = 0 } some in
    cc

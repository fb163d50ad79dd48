use Rattle.std.proofs.Common.{◌≡◌, arith, ap, ◌∙◌}
use Rattle.tree_shape.specs.NodeData.{entries_of, place_for}
use Rattle.tree_shape.proofs.Orders.{leaf_order}
use Rattle.tree_shape.proofs.Parts.{taken, taken_at, place_above}
use Rattle.tree_shape.proofs.edits.take_entry.Goals as goal

pub overflow_sub-place : goal.overflow_sub-place
overflow_sub-place c =
    let at : c.place-place.result ≡ place_for c.args.base (entries_of c.args.node.now) = c.place-place.ensures.value ∙ ap (place_for c.args.base) c.entries-entries.ensures.value in
    let within = leaf_order c.args.node.now c.requires.leaf c.requires.ordered in
    omega (arith, place_above c.args.base c.args.node.now.low c.args.node.now.high (entries_of c.args.node.now) c.place-place.result within c.requires.held at)

pub returns-clause-left : goal.returns-clause-left
returns-clause-left c =
    let at : c.place-place.result ≡ place_for c.args.base (entries_of c.args.node.now) = c.place-place.ensures.value ∙ ap (place_for c.args.base) c.entries-entries.ensures.value in
    let within = leaf_order c.args.node.now c.requires.leaf c.requires.ordered in
    let rest = taken c.args.base c.args.node.now.low c.args.node.now.high (entries_of c.args.node.now) c.place-place.result within c.requires.held at in
    cc

pub returns-clause-taken : goal.returns-clause-taken
returns-clause-taken c =
    let at : c.place-place.result ≡ place_for c.args.base (entries_of c.args.node.now) = c.place-place.ensures.value ∙ ap (place_for c.args.base) c.entries-entries.ensures.value in
    let within = leaf_order c.args.node.now c.requires.leaf c.requires.ordered in
    let there = taken_at c.args.base c.args.node.now.low c.args.node.now.high (entries_of c.args.node.now) c.place-place.result c.index-entries-place.result within c.requires.held at in
    cc

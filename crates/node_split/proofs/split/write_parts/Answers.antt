use Rattle.std.proofs.Common.{ap, ◌∙◌}
use Rattle.word_rule.specs.CallerData.{CallerData}
use Rattle.tree_descent.proofs.Descending.{in_order}
use Rattle.tree_descent.proofs.Descents.{steps_of_load}
use Rattle.tree_descent.proofs.NodeSteps.{steps_then}
use Rattle.node_split.proofs.HeldParts.{place_of_lock}
use Rattle.node_split.proofs.Splitting.{child_spelled, may_first, may_second, may_third, parent_spelled, split_written, table_then}
use Rattle.node_split.proofs.split.write_parts.Goals as goal

pub parts_of-parts-requires-clause-in_order : goal.parts_of-parts-requires-clause-in_order
parts_of-parts-requires-clause-in_order c =
    let parent = c.args.full.now.parent in
    let own = place_of_lock c.args.words.now.terms parent.node parent.content parent.changed c.requires.held.upper c.requires.held.parent in
    in_order parent.node parent.content own.1.ordered own.1.filled

pub parts_of-parts-requires-clause-parent : goal.parts_of-parts-requires-clause-parent
parts_of-parts-requires-clause-parent c =
    parent_spelled c.args.words.now.terms c.args.full.now c.args.pc c.args.me.now c.requires.held c.load_node.ensures.tree c.load_node.new.me.log (ap (λ (z : CallerData). z.log.holdings) c.load_node.ensures.log)

pub parts_of-parts-requires-clause-child : goal.parts_of-parts-requires-clause-child
parts_of-parts-requires-clause-child c =
    child_spelled c.args.words.now.terms c.args.full.now c.args.pc c.args.me.now c.requires.held c.load_node.ensures.tree c.load_node.new.me.log (ap (λ (z : CallerData). z.log.holdings) c.load_node.ensures.log)

pub write_held-requires-clause-may : goal.write_held-requires-clause-may
write_held-requires-clause-may c =
    may_first c.args.words.now.terms c.args.full.now c.args.pc c.args.me.now c.requires.held c.load_node.ensures.tree c.parts_of-parts.new.me (c.parts_of-parts.ensures.holdings ∙ ap (λ (z : CallerData). z.log.holdings) c.load_node.ensures.log)

pub write_held-requires-2-clause-may : goal.write_held-requires-2-clause-may
write_held-requires-2-clause-may c =
    let parts = c.parts_of-parts in let first = c.write_held in
    may_second c.args.words.now.terms c.args.full.now c.args.pc c.args.me.now c.requires.held c.load_node.ensures.tree parts.result parts.ensures.parts parts.new.me first.new.me (parts.ensures.holdings ∙ ap (λ (z : CallerData). z.log.holdings) c.load_node.ensures.log) first.ensures.stores first.ensures.spells

pub write_held-requires-3-clause-table : goal.write_held-requires-3-clause-table
write_held-requires-3-clause-table c =
    let parts = c.parts_of-parts in let first = c.write_held in let second = c.write_held-2 in
    table_then c.args.words.now.terms c.args.full.now c.args.pc c.args.me.now c.requires.held c.load_node.ensures.tree parts.result parts.ensures.parts parts.new.me first.new.me (parts.ensures.holdings ∙ ap (λ (z : CallerData). z.log.holdings) c.load_node.ensures.log) first.ensures.stores first.ensures.spells second.new.me second.ensures.stores second.ensures.spells
    ∙ (parts.ensures.same.calls.caller.table ∙ (ap (λ (z : CallerData). z.table) c.load_node.ensures.log ∙ c.requires.table))

pub write_held-requires-3-clause-may : goal.write_held-requires-3-clause-may
write_held-requires-3-clause-may c =
    let parts = c.parts_of-parts in let first = c.write_held in let second = c.write_held-2 in
    may_third c.args.words.now.terms c.args.full.now c.args.pc c.args.me.now c.requires.held c.load_node.ensures.tree parts.result parts.ensures.parts parts.new.me first.new.me (parts.ensures.holdings ∙ ap (λ (z : CallerData). z.log.holdings) c.load_node.ensures.log) first.ensures.stores first.ensures.spells second.new.me second.ensures.stores second.ensures.spells

pub returns-clause-written : goal.returns-clause-written
returns-clause-written c =
    let k = c.args.me.now in let parts = c.parts_of-parts in let first = c.write_held in let second = c.write_held-2 in let third = c.write_held-3 in
    split_written c.args.words.now.terms c.args.full.now c.args.pc k c.requires.held c.load_node.ensures.tree parts.result parts.ensures.parts parts.new.me first.new.me (parts.ensures.holdings ∙ ap (λ (z : CallerData). z.log.holdings) c.load_node.ensures.log) first.ensures.stores first.ensures.spells second.new.me second.ensures.stores second.ensures.spells third.new.me third.ensures.stores third.ensures.spells
    (steps_then k c.load_node.new.me parts.new.me (steps_of_load c.args.full.now.parent.node 2 c.load_node.result k c.load_node.new.me c.load_node.ensures.log) parts.ensures.same)

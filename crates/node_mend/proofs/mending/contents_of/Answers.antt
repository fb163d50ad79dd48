use Rattle.std.proofs.Common.{◌∙◌, ap}
use Rattle.word_rule.specs.CallerData.{CallerData}
use Rattle.tree_descent.proofs.Descents.{steps_of_load}
use Rattle.tree_descent.proofs.NodeSteps.{steps_then}
use Rattle.node_mend.proofs.HeldOutlines.{left_spells, right_spells, upper_spells}
use Rattle.node_mend.proofs.mending.contents_of.Goals as goal

pub content_of-left-requires-clause-spells : goal.content_of-left-requires-clause-spells
content_of-left-requires-clause-spells c = left_spells c.args.words.now.terms c.args.x.now c.args.me.now c.requires.held c.load_node.ensures.tree c.load_node.new.me.log (ap (λ (z : CallerData). z.log.holdings) c.load_node.ensures.log)

pub content_of-right-requires-clause-spells : goal.content_of-right-requires-clause-spells
content_of-right-requires-clause-spells c = right_spells c.args.words.now.terms c.args.x.now c.args.me.now c.requires.held c.load_node.ensures.tree c.content_of-left.new.me.log (c.content_of-left.ensures.holdings ∙ ap (λ (z : CallerData). z.log.holdings) c.load_node.ensures.log)

pub content_of-above-requires-clause-spells : goal.content_of-above-requires-clause-spells
content_of-above-requires-clause-spells c = upper_spells c.args.words.now.terms c.args.x.now c.args.me.now c.requires.held c.load_node.ensures.tree c.content_of-right.new.me.log (c.content_of-right.ensures.holdings ∙ (c.content_of-left.ensures.holdings ∙ ap (λ (z : CallerData). z.log.holdings) c.load_node.ensures.log))

pub returns-clause-steps : goal.returns-clause-steps
returns-clause-steps c =
    let k = c.args.me.now in let k1 = c.load_node.new.me in let k2 = c.content_of-left.new.me in let k3 = c.content_of-right.new.me in let k4 = c.content_of-above.new.me in
    steps_then k k1 k4 (steps_of_load c.args.x.now.right.node 2 c.load_node.result k k1 c.load_node.ensures.log) (steps_then k1 k2 k4 c.content_of-left.ensures.steps (steps_then k2 k3 k4 c.content_of-right.ensures.steps c.content_of-above.ensures.steps))

pub returns-clause-holdings : goal.returns-clause-holdings
returns-clause-holdings c = c.content_of-above.ensures.holdings ∙ (c.content_of-right.ensures.holdings ∙ (c.content_of-left.ensures.holdings ∙ ap (λ (z : CallerData). z.log.holdings) c.load_node.ensures.log))

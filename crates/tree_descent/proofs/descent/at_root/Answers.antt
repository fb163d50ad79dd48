use Rattle.std.proofs.Common.{ap, ◌∙◌, arith}
use Rattle.word_rule.specs.CallerData.{CallerData}
use Rattle.tree_descent.proofs.Descending.{steps_of_take}
use Rattle.tree_descent.proofs.Descents.{at_the_root, may_read_root, steps_of_load, steps_of_version}
use Rattle.tree_descent.proofs.Outlining.{steps_of_loads}
use Rattle.tree_descent.proofs.NodeSteps.{steps_then}
use Rattle.tree_descent.proofs.descent.at_root.Goals as goal

pub outline_of-content-requires-clause-held : goal.outline_of-content-requires-clause-held
outline_of-content-requires-clause-held g c = may_read_root c.args.words.now.terms c.load_version.new.me c.take_node.new.me c.load_node.new.me c.load_node.result c.in_ok-take_node.ensures.ok c.load_node.ensures.log

pub returns-clause-ok : goal.returns-clause-ok
returns-clause-ok g c =
    let version = c.load_version.ensures.log in
    let some = c.nodes-some.ensures.some in let value = c.nodes-some.ensures.value in
    at_the_root c.args.words.now.terms c.outline_of-content.result c.load_version.new.me c.take_node.new.me c.load_node.new.me c.outline_of-content.new.me c.load_node.result (omega (arith, some, value))
    (ap (λ (k : CallerData). k.log.terms) version ∙ c.load_version.ensures.tells.0)
    (ap (λ (k : CallerData). k.log.holdings.held) version ∙ c.requires.idle.held, ap (λ (k : CallerData). k.log.holdings.out) version ∙ c.requires.idle.out)
    c.in_ok-take_node.ensures.ok c.load_node.ensures.tree c.load_node.ensures.log c.outline_of-content.ensures.spells c.outline_of-content.ensures.holdings

pub returns-clause-same : goal.returns-clause-same
returns-clause-same g c =
    let k = c.args.me.now in let k1 = c.load_version.new.me in let k2 = c.take_node.new.me in let k3 = c.load_node.new.me in
    steps_then k k3 c.outline_of-content.new.me
    (steps_then k k2 k3 (steps_then k k1 k2 (steps_of_version 0 c.load_version.result k k1 c.load_version.ensures.log) (steps_of_take 0 k1 k2 c.in_ok-take_node.ensures.ok)) (steps_of_load 0 2 c.load_node.result k2 k3 c.load_node.ensures.log))
    (steps_of_loads k3 c.outline_of-content.new.me c.outline_of-content.ensures.loads)

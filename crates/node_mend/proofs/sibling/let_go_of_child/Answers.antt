use Rattle.std.proofs.Common.{◌∙◌, ap}
use Rattle.word_rule.specs.CallerData.{CallerData}
use Rattle.tree_descent.proofs.Releases.{lock_gone, lock_may}
use Rattle.node_mend.proofs.Neighbouring.{child_left}
use Rattle.node_mend.proofs.sibling.let_go_of_child.Goals as goal

pub let_go_of-requires-clause-may : goal.let_go_of-requires-clause-may
let_go_of-requires-clause-may g c =
    let above = c.args.child.now.above in let k1 = c.let_go_same.new.me in
    lock_may above.node above.changed k1.log.holdings (child_left c.args.words.now.terms c.args.child.now c.requires.held.0 c.args.me.now k1 c.requires.held.1 c.let_go_same.ensures)

pub returns-clause-nothing : goal.returns-clause-nothing
returns-clause-nothing g c =
    let above = c.args.child.now.above in let k1 = c.let_go_same.new.me in
    let left = child_left c.args.words.now.terms c.args.child.now c.requires.held.0 c.args.me.now k1 c.requires.held.1 c.let_go_same.ensures in
    (lock_gone above.node above.changed k1 c.let_go_of.new.me left c.let_go_of.ensures, c.let_go_of.ensures.out ∙ (ap (λ (z : CallerData). z.log.holdings.out) c.let_go_same.ensures ∙ c.requires.held.1.out))

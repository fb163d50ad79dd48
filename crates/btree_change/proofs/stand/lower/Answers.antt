use Rattle.std.proofs.Common.{drop, false, sym, subst, ◌∙◌}
use Rattle.word_rule.specs.declared.log.Holdings.{Holdings}
use Rattle.node_store.proofs.Outlined.{loads_hold}
use Rattle.tree_descent.specs.Stands.{HoldsPair, StandsAt}
use Rattle.tree_descent.proofs.Lowering.{lowered, may_read_child, settled_inner, settled_order, steps_lowered}
use Rattle.tree_descent.proofs.Outlining.{stands_spelled, steps_of_loads}
use Rattle.tree_descent.proofs.NodeSteps.{steps_then}
use Rattle.btree_change.proofs.stand.lower.Goals as goal

pub child_for-node-requires-clause-inside : goal.child_for-node-requires-clause-inside
child_for-node-requires-clause-inside g c = c.requires.stands.within

pub child_for-node-requires-clause-spells : goal.child_for-node-requires-clause-spells
child_for-node-requires-clause-spells g c = stands_spelled c.args.words.now.terms c.args.at.now c.args.me.now.log c.requires.stands

pub child_for-node-requires-clause-inner : goal.child_for-node-requires-clause-inner
child_for-node-requires-clause-inner g c = let s = c.requires.stands in settled_inner c.args.words.now.terms c.args.at.now.node c.args.at.now.content c.args.at.now.changed s.lock s.here c.requires.inner

pub child_for-node-requires-clause-ordered : goal.child_for-node-requires-clause-ordered
child_for-node-requires-clause-ordered g c = let s = c.requires.stands in settled_order c.args.words.now.terms c.args.at.now.node c.args.at.now.content c.args.at.now.changed s.lock s.here

pub outline_of-content-requires-clause-held : goal.outline_of-content-requires-clause-held
outline_of-content-requires-clause-held g c =
    let t = c.args.words.now.terms in let at = c.args.at.now in let k = c.args.me.now in let k0 = c.child_for-node.new.me in
    let kept = loads_hold k k0 c.child_for-node.ensures.loads in let before = steps_of_loads k k0 c.child_for-node.ensures.loads in
    let stands = subst (StandsAt t at) (sym kept) c.requires.stands in
    may_read_child t at c.args.pc c.child_for-node.result k0 c.take_node.new.me (before.calls.caller.terms ∙ c.requires.terms) stands c.requires.inner c.child_for-node.ensures.child c.in_ok-take_node.ensures.ok

pub returns-clause-ok : goal.returns-clause-ok
returns-clause-ok g c =
    let t = c.args.words.now.terms in let at = c.args.at.now in let k = c.args.me.now in let k0 = c.child_for-node.new.me in
    let kept = loads_hold k k0 c.child_for-node.ensures.loads in let before = steps_of_loads k k0 c.child_for-node.ensures.loads in
    let stands = subst (StandsAt t at) (sym kept) c.requires.stands in
    let low = lowered t at c.args.pc c.child_for-node.result k0 c.take_node.new.me (before.calls.caller.terms ∙ c.requires.terms) stands c.requires.inner c.child_for-node.ensures.child c.in_ok-take_node.ensures.ok c.outline_of-content.result c.outline_of-content.new.me c.outline_of-content.ensures.spells c.outline_of-content.ensures.holdings in
    (subst (λ (hs : Holdings). HoldsPair t c.args.pc at (record { node = c.child_for-node.result; content = c.outline_of-content.result; changed = false }) (drop 1 hs.held) c.outline_of-content.new.me.log.holdings) kept low.0, low.1)

pub returns-clause-same : goal.returns-clause-same
returns-clause-same g c =
    let t = c.args.words.now.terms in let at = c.args.at.now in let k = c.args.me.now in let k0 = c.child_for-node.new.me in
    let kept = loads_hold k k0 c.child_for-node.ensures.loads in let before = steps_of_loads k k0 c.child_for-node.ensures.loads in
    let stands = subst (StandsAt t at) (sym kept) c.requires.stands in
    steps_then k k0 c.outline_of-content.new.me before
    (steps_lowered t at c.args.pc c.child_for-node.result k0 c.take_node.new.me (before.calls.caller.terms ∙ c.requires.terms) stands c.requires.inner c.child_for-node.ensures.child c.in_ok-take_node.ensures.ok c.outline_of-content.new.me c.outline_of-content.ensures.loads)

use Rattle.std.proofs.Common.{◌<◌, length, ◌∙◌, sym, ap, subst, arith}
use Rattle.tree_shape.specs.Changes.{pair}
use Rattle.tree_shape.specs.NodeData.{pairs_of}
use Rattle.word_rule.specs.CallerData.{CallerData, surplus}
use Rattle.tree_descent.specs.Stands.{HoldsChild}
use Rattle.tree_descent.proofs.Descents.{steps_of_load}
use Rattle.tree_descent.proofs.Outlining.{steps_of_loads}
use Rattle.tree_descent.proofs.Loading.{found_between, found_busy}
use Rattle.tree_descent.proofs.Locked.{busy_kept, child_steps, may_read_taken}
use Rattle.tree_descent.proofs.Spending.{more_spent, spends_same, steps_after}
use Rattle.tree_descent.proofs.Lowering.{settled_inner}
use Rattle.tree_descent.proofs.NodeSteps.{steps_then}
use Rattle.node_mend.proofs.HeldOutlines.{parent_spells}
use Rattle.node_mend.proofs.Neighbouring.{beside_inside, sibling_within, siblings_so, some_pairs}
use Rattle.word_rule.specs.declared.log.LockId.TheVariants as lock
use Rattle.node_mend.proofs.sibling.take_sibling.Goals as goal

pub slot_of_two-first-requires-clause-inner : goal.slot_of_two-first-requires-clause-inner
slot_of_two-first-requires-clause-inner g c = settled_inner c.args.words.now.terms c.args.child.above.node c.args.child.above.content c.args.child.above.changed c.requires.held.upper c.requires.held.parent (let level = c.requires.held.level in omega (arith, level))

pub slot_of_two-first-requires-clause-two : goal.slot_of_two-first-requires-clause-two
slot_of_two-first-requires-clause-two g c = (some_pairs c.args.words.now.terms c.args.child.above.node c.args.child.above.content c.args.child.above.changed c.requires.held.upper c.args.child.slot (pair c.args.child.at.node c.args.child.at.content.high) c.requires.held.parent c.requires.held.at).0

pub slot_beside-beside-requires : goal.slot_beside-beside-requires
slot_beside-beside-requires g c = let most = (some_pairs c.args.words.now.terms c.args.child.above.node c.args.child.above.content c.args.child.above.changed c.requires.held.upper c.args.child.slot (pair c.args.child.at.node c.args.child.at.content.high) c.requires.held.parent c.requires.held.at).1 in let inside = c.slot_of_two-first.ensures.inside in omega (arith, most, inside)

pub pair_of-node-requires-clause-spells : goal.pair_of-node-requires-clause-spells
pair_of-node-requires-clause-spells g c = parent_spells c.args.words.now.terms c.args.child c.args.pc c.args.me.now.log c.requires.held

pub pair_of-node-requires-clause-inner : goal.pair_of-node-requires-clause-inner
pair_of-node-requires-clause-inner g c = settled_inner c.args.words.now.terms c.args.child.above.node c.args.child.above.content c.args.child.above.changed c.requires.held.upper c.requires.held.parent (let level = c.requires.held.level in omega (arith, level))

pub pair_of-node-requires-clause-slot : goal.pair_of-node-requires-clause-slot
pair_of-node-requires-clause-slot g c = beside_inside c.slot_of_two-first.result c.args.child.slot c.slot_beside-beside.result (length (pairs_of c.args.child.above.content)) c.slot_beside-beside.ensures c.slot_of_two-first.ensures.inside

pub let_go_of_child-requires-clause-held : goal.let_go_of_child-requires-clause-held
let_go_of_child-requires-clause-held g c = (c.args.pc, subst (HoldsChild c.args.words.now.terms c.args.child c.args.pc) (sym ((busy_kept (lock.Node c.pair_of-node.result.child) c.load_node.new.me c.take_node.new.me c.in-Err.ensures.busy.1).0 ∙ (ap (λ (z : CallerData). z.log.holdings) c.load_node.ensures.log ∙ c.pair_of-node.ensures.holdings))) c.requires.held)

pub let_go_of_child-requires-clause-surplus : goal.let_go_of_child-requires-clause-surplus
let_go_of_child-requires-clause-surplus g c = subst (λ d. 0 < d) (sym ((busy_kept (lock.Node c.pair_of-node.result.child) c.load_node.new.me c.take_node.new.me c.in-Err.ensures.busy.1).1 ∙ (ap surplus c.load_node.ensures.log ∙ ap surplus c.pair_of-node.ensures.loads.1))) c.requires.surplus

pub outline_of-content-requires-clause-held : goal.outline_of-content-requires-clause-held
outline_of-content-requires-clause-held g c = may_read_taken c.args.words.now.terms c.pair_of-node.result.child c.load_node.new.me c.take_node.new.me c.in_default.ensures.ok

pub returns-clause-ok : goal.returns-clause-ok
returns-clause-ok g c =
    let held = subst (HoldsChild c.args.words.now.terms c.args.child c.args.pc) (sym c.pair_of-node.ensures.holdings) c.requires.held in
    let terms = ap (λ (z : CallerData). z.log.terms) c.pair_of-node.ensures.loads.1 ∙ c.requires.terms in
    siblings_so c.args.words.now.terms c.args.child c.args.pc c.slot_of_two-first.result c.slot_beside-beside.result c.pair_of-node.result c.pair_of-node.new.me c.load_node.new.me c.take_node.new.me c.outline_of-content.new.me c.load_node.result c.outline_of-content.result held c.load_node.ensures.tree terms c.load_node.ensures.log c.slot_of_two-first.ensures.near c.pair_of-node.ensures.pair c.in_default.ensures.ok c.outline_of-content.ensures.spells c.outline_of-content.ensures.holdings c.siblings_of.result c.siblings_of.ensures.above c.siblings_of.ensures.slot c.siblings_of.ensures.order c.slot_beside-beside.ensures

pub returns-clause-spends : goal.returns-clause-spends
returns-clause-spends g c =
    let k = c.args.me.now in let k1 = c.pair_of-node.new.me in let k2 = c.load_node.new.me in let k3 = c.take_node.new.me in let k4 = c.outline_of-content.new.me in
    more_spent 0 1 k k4 (omega arith) (spends_same k k4 (steps_then k k2 k4 (steps_then k k1 k2 (steps_of_loads k k1 c.pair_of-node.ensures.loads) (steps_of_load c.args.child.at.node 2 c.load_node.result k1 k2 c.load_node.ensures.log)) (child_steps c.pair_of-node.result.child k2 k3 k4 c.in_default.ensures.ok c.outline_of-content.ensures.loads)))

pub returns-clause-free : goal.returns-clause-free
returns-clause-free g c =
    let k = c.args.me.now in let k1 = c.pair_of-node.new.me in let k2 = c.load_node.new.me in let k3 = c.take_node.new.me in let k4 = c.outline_of-content.new.me in
    spends_same k k4 (steps_then k k2 k4 (steps_then k k1 k2 (steps_of_loads k k1 c.pair_of-node.ensures.loads) (steps_of_load c.args.child.at.node 2 c.load_node.result k1 k2 c.load_node.ensures.log)) (child_steps c.pair_of-node.result.child k2 k3 k4 c.in_default.ensures.ok c.outline_of-content.ensures.loads))

pub returns-in-Err-clause-cause : goal.returns-in-Err-clause-cause
returns-in-Err-clause-cause g c =
    let k = c.args.me.now in let k1 = c.pair_of-node.new.me in let k2 = c.load_node.new.me in let k3 = c.take_node.new.me in
    found_between c.in-Err.busy k k2 k3 c.let_go_of_child.new.me (steps_then k k1 k2 (steps_of_loads k k1 c.pair_of-node.ensures.loads) (steps_of_load c.args.child.at.node 2 c.load_node.result k1 k2 c.load_node.ensures.log)).loads (found_busy (lock.Node c.pair_of-node.result.child) k2 k3 c.in-Err.busy c.in-Err.ensures.busy.0 c.in-Err.ensures.busy.1) c.let_go_of_child.ensures.spends.loads

pub returns-in-Err-clause-spends : goal.returns-in-Err-clause-spends
returns-in-Err-clause-spends g c =
    let k = c.args.me.now in let k1 = c.pair_of-node.new.me in let k2 = c.load_node.new.me in let k3 = c.take_node.new.me in
    steps_after 0 1 1 k k3 c.let_go_of_child.new.me (omega arith) (spends_same k k3 (steps_then k k2 k3 (steps_then k k1 k2 (steps_of_loads k k1 c.pair_of-node.ensures.loads) (steps_of_load c.args.child.at.node 2 c.load_node.result k1 k2 c.load_node.ensures.log)) (busy_kept (lock.Node c.pair_of-node.result.child) k2 k3 c.in-Err.ensures.busy.1).2)) c.let_go_of_child.ensures.spends

pub take_node-requires-clause-inside : goal.take_node-requires-clause-inside
take_node-requires-clause-inside g c = sibling_within c.args.words.now.terms c.args.child.above.node c.args.child.above.content c.args.child.above.changed c.requires.held.upper c.slot_beside-beside.result c.pair_of-node.result c.requires.held.parent c.pair_of-node.ensures.pair

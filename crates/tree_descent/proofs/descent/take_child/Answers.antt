use Rattle.std.proofs.Common.{◌<◌, ◌∙◌, sym, ap, subst, refl, arith}
use Rattle.word_rule.specs.CallerData.{CallerData, surplus}
use Rattle.tree_descent.specs.Removing.{HoldsAlone, HoldsLock}
use Rattle.tree_descent.proofs.Outlining.{alone_spells, spells_later, steps_of_loads}
use Rattle.tree_descent.proofs.Loading.{found_between, found_busy}
use Rattle.tree_descent.proofs.Locked.{busy_kept, child_so, child_steps, child_within, may_read_taken}
use Rattle.tree_descent.proofs.Releases.{alone_lock, lock_gone, lock_may}
use Rattle.tree_descent.proofs.Spending.{more_spent, spends_same, steps_after}
use Rattle.tree_descent.proofs.Lowering.{settled_order}
use Rattle.tree_descent.proofs.NodeSteps.{steps_then}
use Rattle.word_rule.specs.declared.log.LockId.TheVariants as lock
use Rattle.tree_descent.proofs.descent.take_child.Goals as goal

pub slot_of-slot-requires-clause-spells : goal.slot_of-slot-requires-clause-spells
slot_of-slot-requires-clause-spells g c = alone_spells c.args.words.now.terms c.args.above c.args.me.now.log c.requires.alone

pub slot_of-slot-requires-clause-ordered : goal.slot_of-slot-requires-clause-ordered
slot_of-slot-requires-clause-ordered g c = settled_order c.args.words.now.terms c.args.above.node c.args.above.content c.args.above.changed c.requires.alone.lock c.requires.alone.here

pub pair_of-node-requires-clause-spells : goal.pair_of-node-requires-clause-spells
pair_of-node-requires-clause-spells g c = spells_later c.args.above.node c.args.above.content c.args.me.now.log c.slot_of-slot.new.me.log c.slot_of-slot.ensures.holdings (alone_spells c.args.words.now.terms c.args.above c.args.me.now.log c.requires.alone)

pub let_go_of-requires-clause-surplus : goal.let_go_of-requires-clause-surplus
let_go_of-requires-clause-surplus g c = subst (λ d. 0 < d) (sym ((busy_kept (lock.Node c.pair_of-node.result.child) c.pair_of-node.new.me c.take_node.new.me c.in-Err.ensures.busy.1).1 ∙ (ap surplus c.pair_of-node.ensures.loads.1 ∙ ap surplus c.slot_of-slot.ensures.loads.1))) c.requires.surplus

pub outline_of-content-requires-clause-held : goal.outline_of-content-requires-clause-held
outline_of-content-requires-clause-held g c = may_read_taken c.args.words.now.terms c.pair_of-node.result.child c.pair_of-node.new.me c.take_node.new.me c.in_default.ensures.ok

pub returns-clause-ok : goal.returns-clause-ok
returns-clause-ok g c =
    let alone = subst (HoldsAlone c.args.words.now.terms c.args.above) (sym (c.pair_of-node.ensures.holdings ∙ c.slot_of-slot.ensures.holdings)) c.requires.alone in
    let terms = ap (λ (z : CallerData). z.log.terms) c.pair_of-node.ensures.loads.1 ∙ (ap (λ (z : CallerData). z.log.terms) c.slot_of-slot.ensures.loads.1 ∙ c.requires.terms) in
    (child_so c.args.words.now.terms c.args.above c.args.pc c.slot_of-slot.result c.pair_of-node.result c.pair_of-node.new.me c.take_node.new.me c.outline_of-content.new.me c.outline_of-content.result terms alone c.requires.inner c.requires.here c.slot_of-slot.ensures.first c.pair_of-node.ensures.pair c.in_default.ensures.ok c.outline_of-content.ensures.spells c.outline_of-content.ensures.holdings, refl)

pub returns-clause-spends : goal.returns-clause-spends
returns-clause-spends g c =
    let k = c.args.me.now in let k1 = c.slot_of-slot.new.me in let k2 = c.pair_of-node.new.me in let k4 = c.outline_of-content.new.me in
    let down = steps_then k k2 k4 (steps_then k k1 k2 (steps_of_loads k k1 c.slot_of-slot.ensures.loads) (steps_of_loads k1 k2 c.pair_of-node.ensures.loads)) (child_steps c.pair_of-node.result.child k2 c.take_node.new.me k4 c.in_default.ensures.ok c.outline_of-content.ensures.loads) in
    more_spent 0 1 k k4 (omega arith) (spends_same k k4 down)

pub returns-clause-free : goal.returns-clause-free
returns-clause-free g c =
    let k = c.args.me.now in let k1 = c.slot_of-slot.new.me in let k2 = c.pair_of-node.new.me in let k4 = c.outline_of-content.new.me in
    spends_same k k4 (steps_then k k2 k4 (steps_then k k1 k2 (steps_of_loads k k1 c.slot_of-slot.ensures.loads) (steps_of_loads k1 k2 c.pair_of-node.ensures.loads)) (child_steps c.pair_of-node.result.child k2 c.take_node.new.me k4 c.in_default.ensures.ok c.outline_of-content.ensures.loads))

pub returns-in-Err-clause-cause : goal.returns-in-Err-clause-cause
returns-in-Err-clause-cause g c =
    let k = c.args.me.now in let k1 = c.slot_of-slot.new.me in let k2 = c.pair_of-node.new.me in
    let before = (steps_then k k1 k2 (steps_of_loads k k1 c.slot_of-slot.ensures.loads) (steps_of_loads k1 k2 c.pair_of-node.ensures.loads)).loads in
    found_between c.in-Err.busy k k2 c.take_node.new.me c.let_go_of.new.me before (found_busy (lock.Node c.pair_of-node.result.child) k2 c.take_node.new.me c.in-Err.busy c.in-Err.ensures.busy.0 c.in-Err.ensures.busy.1) c.let_go_of.ensures.steps.loads

pub returns-in-Err-clause-spends : goal.returns-in-Err-clause-spends
returns-in-Err-clause-spends g c =
    let k = c.args.me.now in let k1 = c.slot_of-slot.new.me in let k2 = c.pair_of-node.new.me in let k3 = c.take_node.new.me in
    let before = steps_then k k2 k3 (steps_then k k1 k2 (steps_of_loads k k1 c.slot_of-slot.ensures.loads) (steps_of_loads k1 k2 c.pair_of-node.ensures.loads)) (busy_kept (lock.Node c.pair_of-node.result.child) k2 k3 c.in-Err.ensures.busy.1).2 in
    steps_after 0 1 1 k k3 c.let_go_of.new.me (omega arith) (spends_same k k3 before) c.let_go_of.ensures.steps

pub take_node-requires-clause-inside : goal.take_node-requires-clause-inside
take_node-requires-clause-inside g c = child_within c.args.words.now.terms c.args.above c.args.me.now.log.holdings c.slot_of-slot.result c.pair_of-node.result c.requires.alone c.pair_of-node.ensures.pair

pub let_go_of-requires-clause-may : goal.let_go_of-requires-clause-may
let_go_of-requires-clause-may g c =
    let k3 = c.take_node.new.me in
    let same = (busy_kept (lock.Node c.pair_of-node.result.child) c.pair_of-node.new.me k3 c.in-Err.ensures.busy.1).0 ∙ (c.pair_of-node.ensures.holdings ∙ c.slot_of-slot.ensures.holdings) in
    lock_may c.args.above.node c.args.above.changed k3.log.holdings (subst (HoldsLock c.args.above.node c.args.above.changed) (sym same) (alone_lock c.args.words.now.terms c.args.above c.args.me.now.log.holdings c.requires.alone))

pub returns-in-Err-clause-busy : goal.returns-in-Err-clause-busy
returns-in-Err-clause-busy g c =
    let k3 = c.take_node.new.me in
    let same = (busy_kept (lock.Node c.pair_of-node.result.child) c.pair_of-node.new.me k3 c.in-Err.ensures.busy.1).0 ∙ (c.pair_of-node.ensures.holdings ∙ c.slot_of-slot.ensures.holdings) in
    let alone = subst (HoldsAlone c.args.words.now.terms c.args.above) (sym same) c.requires.alone in
    let goes = c.let_go_of.ensures in
    ((lock_gone c.args.above.node c.args.above.changed k3 c.let_go_of.new.me (alone_lock c.args.words.now.terms c.args.above k3.log.holdings alone) goes, goes.out ∙ alone.out), c.in-Err.ensures.busy.2)

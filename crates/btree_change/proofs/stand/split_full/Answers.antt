use Rattle.std.proofs.Common.{drop, subst, refl, Ok}
use Rattle.tree_descent.proofs.Loading.{found_still, keeps_load, keeps_then}
use Rattle.leaf_change.proofs.Releasing.{lowest_may}
use Rattle.node_split.specs.Splits.{IsRoomFor}
use Rattle.btree_change.proofs.Stepping.{child_lowest, busy_gone, child_filled, child_order, full_child, none_split, was_split}
use Rattle.btree_change.proofs.stand.split_full.Goals as goal

pub is_full-requires-clause-ordered : goal.is_full-requires-clause-ordered
is_full-requires-clause-ordered g c = child_order c.args.words.now.terms c.args.pc c.args.step (drop 2 c.args.me.now.log.holdings.held) c.args.me.now c.requires.pair

pub is_full-requires-clause-filled : goal.is_full-requires-clause-filled
is_full-requires-clause-filled g c = child_filled c.args.words.now.terms c.args.pc c.args.step (drop 2 c.args.me.now.log.holdings.held) c.args.me.now c.requires.pair

pub let_go_of-requires-clause-may : goal.let_go_of-requires-clause-may
let_go_of-requires-clause-may g c = lowest_may _ _ _ (child_lowest c.args.words.now.terms c.args.pc c.args.step (drop 2 c.args.me.now.log.holdings.held) c.args.me.now c.requires.pair c.room_for.new.me c.load_node.result c.load_node.new.me c.in-Err.ensures.0 c.load_node.ensures.tree c.load_node.ensures.log)

pub split_child-requires-clause-held : goal.split_child-requires-clause-held
split_child-requires-clause-held g c = full_child c.args.words.now.terms c.args.pc c.args.step (drop 2 c.args.me.now.log.holdings.held) c.args.me.now c.requires.pair c.in-Ok-Some.fresh c.room_for.new.me c.requires.terms (subst (λ o. IsRoomFor g.L.Locking.gives_up c.args.pc c.args.me.now c.room_for.new.me (Ok o)) c.in-Ok-Some.field-0-is c.in-Ok-Some.ensures) c.if-not-is_full.ensures c.requires.here c.requires.room

pub returns-in-Err-clause-busy : goal.returns-in-Err-clause-busy
returns-in-Err-clause-busy g c =
    let gone = busy_gone c.args.words.now.terms c.args.pc c.args.step (drop 2 c.args.me.now.log.holdings.held) c.args.me.now c.requires.pair c.room_for.new.me c.load_node.result c.load_node.new.me c.let_go_of.new.me c.in-Err.ensures.0 c.load_node.ensures.tree c.load_node.ensures.log c.let_go_of.ensures in
    (gone.0, gone.1, gone.2, c.in-Err.ensures.1)

pub returns-in-Err-clause-cause : goal.returns-in-Err-clause-cause
returns-in-Err-clause-cause g c =
    let k1 = c.room_for.new.me in let k2 = c.load_node.new.me in let k3 = c.let_go_of.new.me in
    found_still c.in-Err.busy c.args.me.now k1 k3 c.in-Err.ensures.2 (keeps_then k1 k2 k3 (keeps_load c.args.step.child.node 2 c.load_node.result k1 k2 c.load_node.ensures.log) c.let_go_of.ensures.steps.loads)

pub returns-in-Ok-Some-clause-ok : goal.returns-in-Ok-Some-clause-ok
returns-in-Ok-Some-clause-ok g c = was_split c.args.words.now.terms c.args.pc c.args.step (drop 2 c.args.me.now.log.holdings.held) c.args.me.now c.requires.pair c.in-Ok-Some.fresh c.split_child.result c.room_for.new.me c.split_child.new.me refl (subst (λ o. IsRoomFor g.L.Locking.gives_up c.args.pc c.args.me.now c.room_for.new.me (Ok o)) c.in-Ok-Some.field-0-is c.in-Ok-Some.ensures) c.split_child.ensures

pub returns-in-Ok-None-clause-ok : goal.returns-in-Ok-None-clause-ok
returns-in-Ok-None-clause-ok g c =
    let none = subst (λ o. IsRoomFor g.L.Locking.gives_up c.args.pc c.args.me.now c.room_for.new.me (Ok o)) c.in-Ok-None.field-0-is c.in-Ok-None.ensures in
    none_split c.args.words.now.terms c.args.pc c.args.step (drop 2 c.args.me.now.log.holdings.held) c.args.me.now c.requires.pair c.room_for.new.me refl none.0 none.1 c.requires.less

use Rattle.std.proofs.Common.{◌∙◌, subst}
use Rattle.tree_shape.specs.NodeData.{NodeData}
use Rattle.node_store.specs.Holding.{SpellsHeld, StoresHeld}
use Rattle.node_mend.proofs.Joining.{joined_so, joined_steps, may_free, may_link, may_low, may_upper, table3, table4}
use Rattle.node_mend.proofs.mending.join_into_left.Goals as goal

pub write_held-requires-clause-may : goal.write_held-requires-clause-may
write_held-requires-clause-may c = may_low c.args.words.now.terms c.args.x.now c.args.me.now c.load_node.new.me c.load_node.result c.requires.held c.load_node.ensures.tree c.load_node.ensures.holder c.load_node.ensures.log c.requires.fit

pub write_held-requires-2-clause-may : goal.write_held-requires-2-clause-may
write_held-requires-2-clause-may c = may_upper c.args.words.now.terms c.args.x.now c.args.me.now c.load_node.new.me c.load_node.result c.requires.held c.load_node.ensures.tree c.load_node.ensures.holder c.load_node.ensures.log c.requires.fit c.write_held.new.me (subst (λ (z : NodeData). StoresHeld c.args.x.now.left.node z c.load_node.new.me c.write_held.new.me) c.requires.content c.write_held.ensures.stores) (subst (λ (z : NodeData). SpellsHeld c.args.x.now.left.node z c.write_held.new.me.log) c.requires.content c.write_held.ensures.spells)

pub store_node-requires-clause-table : goal.store_node-requires-clause-table
store_node-requires-clause-table c = table3 c.args.words.now.terms c.args.x.now c.args.me.now c.load_node.new.me c.load_node.result c.requires.held c.load_node.ensures.tree c.load_node.ensures.holder c.load_node.ensures.log c.requires.fit c.write_held.new.me (subst (λ (z : NodeData). StoresHeld c.args.x.now.left.node z c.load_node.new.me c.write_held.new.me) c.requires.content c.write_held.ensures.stores) (subst (λ (z : NodeData). SpellsHeld c.args.x.now.left.node z c.write_held.new.me.log) c.requires.content c.write_held.ensures.spells) c.write_held-2.new.me (subst (λ (z : NodeData). StoresHeld c.args.x.now.above.node z c.write_held.new.me c.write_held-2.new.me) c.requires.above c.write_held-2.ensures.stores) (subst (λ (z : NodeData). SpellsHeld c.args.x.now.above.node z c.write_held-2.new.me.log) c.requires.above c.write_held-2.ensures.spells) ∙ c.requires.table

pub store_node-requires-2-clause-table : goal.store_node-requires-2-clause-table
store_node-requires-2-clause-table c = table4 c.args.words.now.terms c.args.x.now c.args.me.now c.load_node.new.me c.load_node.result c.requires.held c.load_node.ensures.tree c.load_node.ensures.holder c.load_node.ensures.log c.requires.fit c.write_held.new.me (subst (λ (z : NodeData). StoresHeld c.args.x.now.left.node z c.load_node.new.me c.write_held.new.me) c.requires.content c.write_held.ensures.stores) (subst (λ (z : NodeData). SpellsHeld c.args.x.now.left.node z c.write_held.new.me.log) c.requires.content c.write_held.ensures.spells) c.write_held-2.new.me (subst (λ (z : NodeData). StoresHeld c.args.x.now.above.node z c.write_held.new.me c.write_held-2.new.me) c.requires.above c.write_held-2.ensures.stores) (subst (λ (z : NodeData). SpellsHeld c.args.x.now.above.node z c.write_held-2.new.me.log) c.requires.above c.write_held-2.ensures.spells) c.store_node.new.me c.store_node.ensures.log ∙ c.requires.table

pub store_node-requires-clause-may : goal.store_node-requires-clause-may
store_node-requires-clause-may c = may_link c.args.words.now.terms c.args.x.now c.args.me.now c.load_node.new.me c.load_node.result c.requires.held c.load_node.ensures.tree c.load_node.ensures.holder c.load_node.ensures.log c.requires.fit c.write_held.new.me (subst (λ (z : NodeData). StoresHeld c.args.x.now.left.node z c.load_node.new.me c.write_held.new.me) c.requires.content c.write_held.ensures.stores) (subst (λ (z : NodeData). SpellsHeld c.args.x.now.left.node z c.write_held.new.me.log) c.requires.content c.write_held.ensures.spells) c.write_held-2.new.me (subst (λ (z : NodeData). StoresHeld c.args.x.now.above.node z c.write_held.new.me c.write_held-2.new.me) c.requires.above c.write_held-2.ensures.stores) (subst (λ (z : NodeData). SpellsHeld c.args.x.now.above.node z c.write_held-2.new.me.log) c.requires.above c.write_held-2.ensures.spells)

pub store_node-requires-2-clause-may : goal.store_node-requires-2-clause-may
store_node-requires-2-clause-may c = may_free c.args.words.now.terms c.args.x.now c.args.me.now c.load_node.new.me c.load_node.result c.requires.held c.load_node.ensures.tree c.load_node.ensures.holder c.load_node.ensures.log c.requires.fit c.write_held.new.me (subst (λ (z : NodeData). StoresHeld c.args.x.now.left.node z c.load_node.new.me c.write_held.new.me) c.requires.content c.write_held.ensures.stores) (subst (λ (z : NodeData). SpellsHeld c.args.x.now.left.node z c.write_held.new.me.log) c.requires.content c.write_held.ensures.spells) c.write_held-2.new.me (subst (λ (z : NodeData). StoresHeld c.args.x.now.above.node z c.write_held.new.me c.write_held-2.new.me) c.requires.above c.write_held-2.ensures.stores) (subst (λ (z : NodeData). SpellsHeld c.args.x.now.above.node z c.write_held-2.new.me.log) c.requires.above c.write_held-2.ensures.spells) c.store_node.new.me c.store_node.ensures.log

pub returns-clause-gone : goal.returns-clause-gone
returns-clause-gone c = joined_so c.args.words.now.terms c.args.x.now c.args.me.now c.load_node.new.me c.load_node.result c.requires.held c.load_node.ensures.tree c.load_node.ensures.holder c.load_node.ensures.log c.requires.fit c.write_held.new.me (subst (λ (z : NodeData). StoresHeld c.args.x.now.left.node z c.load_node.new.me c.write_held.new.me) c.requires.content c.write_held.ensures.stores) (subst (λ (z : NodeData). SpellsHeld c.args.x.now.left.node z c.write_held.new.me.log) c.requires.content c.write_held.ensures.spells) c.write_held-2.new.me (subst (λ (z : NodeData). StoresHeld c.args.x.now.above.node z c.write_held.new.me c.write_held-2.new.me) c.requires.above c.write_held-2.ensures.stores) (subst (λ (z : NodeData). SpellsHeld c.args.x.now.above.node z c.write_held-2.new.me.log) c.requires.above c.write_held-2.ensures.spells) c.store_node.new.me c.store_node.ensures.log (record { decided = c.exchange_decided.ensures; transfer = c.transfer.ensures.lawful; reached = c.transfer.ensures.reached; widen = c.widen.ensures.lawful; wider = c.widen.ensures.reached }) c.join.ensures.change c.requires.spare c.store_node-2.new.me c.store_node-2.ensures.log

pub returns-clause-same : goal.returns-clause-same
returns-clause-same c = joined_steps c.args.words.now.terms c.args.x.now c.args.me.now c.load_node.new.me c.load_node.result c.requires.held c.load_node.ensures.tree c.load_node.ensures.holder c.load_node.ensures.log c.requires.fit c.write_held.new.me (subst (λ (z : NodeData). StoresHeld c.args.x.now.left.node z c.load_node.new.me c.write_held.new.me) c.requires.content c.write_held.ensures.stores) (subst (λ (z : NodeData). SpellsHeld c.args.x.now.left.node z c.write_held.new.me.log) c.requires.content c.write_held.ensures.spells) c.write_held-2.new.me (subst (λ (z : NodeData). StoresHeld c.args.x.now.above.node z c.write_held.new.me c.write_held-2.new.me) c.requires.above c.write_held-2.ensures.stores) (subst (λ (z : NodeData). SpellsHeld c.args.x.now.above.node z c.write_held-2.new.me.log) c.requires.above c.write_held-2.ensures.spells) c.store_node.new.me c.store_node.ensures.log (record { decided = c.exchange_decided.ensures; transfer = c.transfer.ensures.lawful; reached = c.transfer.ensures.reached; widen = c.widen.ensures.lawful; wider = c.widen.ensures.reached }) c.join.ensures.change c.requires.spare c.store_node-2.new.me c.store_node-2.ensures.log

use Rattle.std.proofs.Common.{◌≡◌, subst}
use Rattle.tree_shape.specs.NodeData.{NodeData}
use Rattle.word_rule.specs.Steps.{after_node_store}
use Rattle.node_store.specs.Holding.{SpellsHeld, StoresHeld}
use Rattle.node_mend.proofs.Sunk.{may_free, may_link, may_raise, sunk_so, sunk_steps}
use Rattle.node_mend.proofs.mending.sink_into_root.Goals as goal

pub store_node-requires-clause-may : goal.store_node-requires-clause-may
store_node-requires-clause-may c = may_raise c.args.words.now.terms c.args.x.now c.args.me.now c.load_node.new.me c.load_node-2.new.me c.load_node.result c.load_node-2.result c.requires.held c.load_node.ensures.tree c.load_node.ensures.holder c.load_node.ensures.log c.load_node-2.ensures.holder c.load_node-2.ensures.log c.requires.root c.requires.two c.requires.fit c.write_held.new.me (subst (λ (z : NodeData). StoresHeld c.args.x.now.above.node z c.load_node-2.new.me c.write_held.new.me) c.requires.content c.write_held.ensures.stores) (subst (λ (z : NodeData). SpellsHeld c.args.x.now.above.node z c.write_held.new.me.log) c.requires.content c.write_held.ensures.spells)

pub store_node-requires-2-clause-may : goal.store_node-requires-2-clause-may
store_node-requires-2-clause-may c = may_link c.args.words.now.terms c.args.x.now c.args.me.now c.load_node.new.me c.load_node-2.new.me c.load_node.result c.load_node-2.result c.requires.held c.load_node.ensures.tree c.load_node.ensures.holder c.load_node.ensures.log c.load_node-2.ensures.holder c.load_node-2.ensures.log c.requires.root c.requires.two c.requires.fit c.write_held.new.me (subst (λ (z : NodeData). StoresHeld c.args.x.now.above.node z c.load_node-2.new.me c.write_held.new.me) c.requires.content c.write_held.ensures.stores) (subst (λ (z : NodeData). SpellsHeld c.args.x.now.above.node z c.write_held.new.me.log) c.requires.content c.write_held.ensures.spells) c.store_node.new.me (subst (λ v. c.store_node.new.me ≡ record c.write_held.new.me { log = after_node_store c.args.x.now.right.node 2 v c.write_held.new.me.log }) c.next_level.ensures c.store_node.ensures.log)

pub store_node-requires-3-clause-may : goal.store_node-requires-3-clause-may
store_node-requires-3-clause-may c = may_free c.args.words.now.terms c.args.x.now c.args.me.now c.load_node.new.me c.load_node-2.new.me c.load_node.result c.load_node-2.result c.requires.held c.load_node.ensures.tree c.load_node.ensures.holder c.load_node.ensures.log c.load_node-2.ensures.holder c.load_node-2.ensures.log c.requires.root c.requires.two c.requires.fit c.write_held.new.me (subst (λ (z : NodeData). StoresHeld c.args.x.now.above.node z c.load_node-2.new.me c.write_held.new.me) c.requires.content c.write_held.ensures.stores) (subst (λ (z : NodeData). SpellsHeld c.args.x.now.above.node z c.write_held.new.me.log) c.requires.content c.write_held.ensures.spells) c.store_node.new.me (subst (λ v. c.store_node.new.me ≡ record c.write_held.new.me { log = after_node_store c.args.x.now.right.node 2 v c.write_held.new.me.log }) c.next_level.ensures c.store_node.ensures.log) c.store_node-2.new.me c.store_node-2.ensures.log

pub returns-clause-gone : goal.returns-clause-gone
returns-clause-gone c = sunk_so c.args.words.now.terms c.args.x.now c.args.me.now c.load_node.new.me c.load_node-2.new.me c.load_node.result c.load_node-2.result c.requires.held c.load_node.ensures.tree c.load_node.ensures.holder c.load_node.ensures.log c.load_node-2.ensures.holder c.load_node-2.ensures.log c.requires.root c.requires.two c.requires.fit c.write_held.new.me (subst (λ (z : NodeData). StoresHeld c.args.x.now.above.node z c.load_node-2.new.me c.write_held.new.me) c.requires.content c.write_held.ensures.stores) (subst (λ (z : NodeData). SpellsHeld c.args.x.now.above.node z c.write_held.new.me.log) c.requires.content c.write_held.ensures.spells) c.store_node.new.me (subst (λ v. c.store_node.new.me ≡ record c.write_held.new.me { log = after_node_store c.args.x.now.right.node 2 v c.write_held.new.me.log }) c.next_level.ensures c.store_node.ensures.log) c.store_node-2.new.me c.store_node-2.ensures.log (record { decided = c.exchange_decided.ensures; transfer = c.transfer.ensures.lawful; reached = c.transfer.ensures.reached; widen = c.widen.ensures.lawful; wider = c.widen.ensures.reached }) c.sink.ensures.change c.store_node-3.new.me c.store_node-3.ensures.log

pub returns-clause-same : goal.returns-clause-same
returns-clause-same c = sunk_steps c.args.words.now.terms c.args.x.now c.args.me.now c.load_node.new.me c.load_node-2.new.me c.load_node.result c.load_node-2.result c.requires.held c.load_node.ensures.tree c.load_node.ensures.holder c.load_node.ensures.log c.load_node-2.ensures.holder c.load_node-2.ensures.log c.requires.root c.requires.two c.requires.fit c.write_held.new.me (subst (λ (z : NodeData). StoresHeld c.args.x.now.above.node z c.load_node-2.new.me c.write_held.new.me) c.requires.content c.write_held.ensures.stores) (subst (λ (z : NodeData). SpellsHeld c.args.x.now.above.node z c.write_held.new.me.log) c.requires.content c.write_held.ensures.spells) c.store_node.new.me (subst (λ v. c.store_node.new.me ≡ record c.write_held.new.me { log = after_node_store c.args.x.now.right.node 2 v c.write_held.new.me.log }) c.next_level.ensures c.store_node.ensures.log) c.store_node-2.new.me c.store_node-2.ensures.log (record { decided = c.exchange_decided.ensures; transfer = c.transfer.ensures.lawful; reached = c.transfer.ensures.reached; widen = c.widen.ensures.lawful; wider = c.widen.ensures.reached }) c.sink.ensures.change c.store_node-3.new.me c.store_node-3.ensures.log

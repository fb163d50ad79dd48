use Rattle.node_store.proofs.OutNodes.{may_write, wrote_after_load}
use Rattle.node_tests.proofs.whole_nodes.write_taken.Goals as goal

pub write_held-requires-clause-may : goal.write_held-requires-clause-may
write_held-requires-clause-may c = may_write c.args.node 1 c.load_node-kind.result c.args.me.now c.load_node-kind.new.me c.load_node-kind.ensures.log c.requires.holds c.requires.out

pub returns-clause-surplus : goal.returns-clause-surplus
returns-clause-surplus c = (wrote_after_load c.args.node 1 c.load_node-kind.result c.args.content.now c.args.me.now c.load_node-kind.new.me c.write_held.new.me c.load_node-kind.ensures.log c.requires.holds c.requires.out c.load_node-kind.ensures.holder c.load_node-kind.ensures.out c.write_held.ensures.stores c.write_held.ensures.spells).0.credit

pub returns-clause-holds : goal.returns-clause-holds
returns-clause-holds c = (wrote_after_load c.args.node 1 c.load_node-kind.result c.args.content.now c.args.me.now c.load_node-kind.new.me c.write_held.new.me c.load_node-kind.ensures.log c.requires.holds c.requires.out c.load_node-kind.ensures.holder c.load_node-kind.ensures.out c.write_held.ensures.stores c.write_held.ensures.spells).0.holds

pub returns-clause-out : goal.returns-clause-out
returns-clause-out c = (wrote_after_load c.args.node 1 c.load_node-kind.result c.args.content.now c.args.me.now c.load_node-kind.new.me c.write_held.new.me c.load_node-kind.ensures.log c.requires.holds c.requires.out c.load_node-kind.ensures.holder c.load_node-kind.ensures.out c.write_held.ensures.stores c.write_held.ensures.spells).1

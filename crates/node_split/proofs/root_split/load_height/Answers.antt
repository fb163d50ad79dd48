use Rattle.node_split.proofs.GivingBack.{highest}
use Rattle.node_split.proofs.root_split.load_height.Goals as goal

pub returns-clause-stays : goal.returns-clause-stays
returns-clause-stays c = (highest c.args.words.now.terms c.args.root.now c.args.pc c.args.me.now c.load_node.new.me c.load_node-2.new.me c.load_node.result c.load_node-2.result c.requires.held c.requires.highest c.load_node.ensures.log c.load_node.ensures.held c.load_node-2.ensures.log c.load_node-2.ensures.held).0

pub returns-clause-cause : goal.returns-clause-cause
returns-clause-cause c = (highest c.args.words.now.terms c.args.root.now c.args.pc c.args.me.now c.load_node.new.me c.load_node-2.new.me c.load_node.result c.load_node-2.result c.requires.held c.requires.highest c.load_node.ensures.log c.load_node.ensures.held c.load_node-2.ensures.log c.load_node-2.ensures.held).1

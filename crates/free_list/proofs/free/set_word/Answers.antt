use Rattle.free_list.proofs.Giving.{word_set}
use Rattle.free_list.proofs.free.set_word.Goals as goal

pub returns-then-load_node-value-clause-log : goal.returns-then-load_node-value-clause-log
returns-then-load_node-value-clause-log c =
    word_set c.args.node c.args.at c.args.value c.load_node.result c.args.me.now c.load_node.new.me c.store_node.new.me c.requires.held c.load_node.ensures.held c.if-load_node-value.true c.load_node.ensures.log c.store_node.ensures.log

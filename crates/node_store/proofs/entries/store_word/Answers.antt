use Rattle.node_store.proofs.Making.{may_after, stored_over, unstored_over}
use Rattle.node_store.proofs.entries.store_word.Goals as goal

pub returns-then-old-store-clause-log : goal.returns-then-old-store-clause-log
returns-then-old-store-clause-log c = stored_over c.args.node c.args.old c.args.store c.args.me.now c.store_node.new.me c.if-old-store.true c.store_node.ensures.log

pub returns-then-old-store-clause-may : goal.returns-then-old-store-clause-may
returns-then-old-store-clause-may c = may_after c.args.node c.args.store.at c.args.store.value c.args.me.now c.store_node.new.me c.requires.word.0 c.store_node.ensures.log c.requires.may

pub returns-else-old-store-clause-log : goal.returns-else-old-store-clause-log
returns-else-old-store-clause-log c = unstored_over c.args.node c.args.old c.args.store c.args.me.now c.if-old-store.false

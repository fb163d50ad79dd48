use Rattle.std.proofs.Common.{◌<◌, ◌∙◌, true, ap, arith}
use Rattle.word_rule.specs.CallerData.{CallerData, due}
use Rattle.tree_descent.proofs.Outlining.{may_read}
use Rattle.tree_descent.proofs.Spending.{spends_same}
use Rattle.leaf_change.proofs.LeafCommits.{LeafLaws}
use Rattle.leaf_change.proofs.Replacings.{alone_may_store, differs, may_replace, read_alone, read_has, read_leaf, read_ordered, read_steps, read_tree, read_written, replace_so, written_steps}
use Rattle.leaf_change.proofs.Spending.{due_after}
use Rattle.leaf_change.proofs.TakingThere.{cut_leaf, cut_spells}
use Rattle.leaf_change.proofs.replacing.with_payload.Goals as goal

pub read_held-content-requires-clause-table : goal.read_held-content-requires-clause-table
read_held-content-requires-clause-table c = ap (λ (z : CallerData). z.table) c.load_node.ensures.log ∙ c.requires.call.table

pub read_held-content-requires-clause-held : goal.read_held-content-requires-clause-held
read_held-content-requires-clause-held c =
    let t = c.args.words.now.terms in let at = c.args.leaf.now in
    may_read at.node at.content c.load_node.new.me.log (cut_spells t at c.args.me.now c.load_node.new.me c.load_node.result c.requires.alone c.load_node.ensures.log)

pub replace_entry-requires-clause-leaf : goal.replace_entry-requires-clause-leaf
replace_entry-requires-clause-leaf c = read_leaf c.args.words.now.terms c.args.leaf.now c.args.member.now c.args.me.now c.load_node.new.me c.read_held-content.new.me c.load_node.result c.read_held-content.result c.requires.alone c.load_node.ensures.log c.read_held-content.ensures.reads c.read_held-content.ensures.holdings c.requires.level

pub replace_entry-requires-clause-ordered : goal.replace_entry-requires-clause-ordered
replace_entry-requires-clause-ordered c = read_ordered c.args.words.now.terms c.args.leaf.now c.args.member.now c.args.me.now c.load_node.new.me c.read_held-content.new.me c.load_node.result c.read_held-content.result c.requires.alone c.load_node.ensures.log c.read_held-content.ensures.reads c.read_held-content.ensures.holdings

pub replace_entry-requires-clause-held : goal.replace_entry-requires-clause-held
replace_entry-requires-clause-held c = read_has c.args.words.now.terms c.args.leaf.now c.args.member.now c.args.me.now c.load_node.new.me c.read_held-content.new.me c.load_node.result c.read_held-content.result c.requires.alone c.load_node.ensures.log c.read_held-content.ensures.reads c.read_held-content.ensures.holdings c.args.old.now c.requires.held

pub write_held-requires-clause-table : goal.write_held-requires-clause-table
write_held-requires-clause-table c = (read_steps c.args.words.now.terms c.args.leaf.now c.args.member.now c.args.me.now c.load_node.new.me c.read_held-content.new.me c.load_node.result c.read_held-content.result c.requires.alone c.load_node.ensures.log c.read_held-content.ensures.reads c.read_held-content.ensures.holdings).calls.caller.table ∙ c.requires.call.table

pub write_held-requires-clause-may : goal.write_held-requires-clause-may
write_held-requires-clause-may c = alone_may_store c.args.words.now.terms c.args.leaf.now c.read_held-content.new.me.log (read_alone c.args.words.now.terms c.args.leaf.now c.args.member.now c.args.me.now c.load_node.new.me c.read_held-content.new.me c.load_node.result c.read_held-content.result c.requires.alone c.load_node.ensures.log c.read_held-content.ensures.reads c.read_held-content.ensures.holdings)

pub commit-requires-clause-table : goal.commit-requires-clause-table
commit-requires-clause-table c = (written_steps c.args.words.now.terms c.args.leaf.now c.args.member.now c.args.me.now c.load_node.new.me c.read_held-content.new.me c.load_node.result c.read_held-content.result c.requires.alone c.load_node.ensures.log c.read_held-content.ensures.reads c.read_held-content.ensures.holdings c.write_held.new.me c.replace_entry.result c.replace_entry.ensures c.write_held.ensures.stores c.write_held.ensures.spells).calls.caller.table ∙ c.requires.call.table

pub commit-requires-clause-due : goal.commit-requires-clause-due
commit-requires-clause-due c = due_after 0 c.args.me.now c.write_held.new.me (spends_same c.args.me.now c.write_held.new.me (written_steps c.args.words.now.terms c.args.leaf.now c.args.member.now c.args.me.now c.load_node.new.me c.read_held-content.new.me c.load_node.result c.read_held-content.result c.requires.alone c.load_node.ensures.log c.read_held-content.ensures.reads c.read_held-content.ensures.holdings c.write_held.new.me c.replace_entry.result c.replace_entry.ensures c.write_held.ensures.stores c.write_held.ensures.spells)) c.requires.call.begun

pub commit-requires-clause-may : goal.commit-requires-clause-may
commit-requires-clause-may c =
    let t = c.args.words.now.terms in let at = c.args.leaf.now in let m = c.args.member.now in let old = c.args.old.now in
    let k = c.args.me.now in let k2 = c.read_held-content.new.me in let k3 = c.write_held.new.me in
    let steps = written_steps c.args.words.now.terms c.args.leaf.now c.args.member.now c.args.me.now c.load_node.new.me c.read_held-content.new.me c.load_node.result c.read_held-content.result c.requires.alone c.load_node.ensures.log c.read_held-content.ensures.reads c.read_held-content.ensures.holdings c.write_held.new.me c.replace_entry.result c.replace_entry.ensures c.write_held.ensures.stores c.write_held.ensures.spells in
    let some : 0 < due k3 = due_after 0 k k3 (spends_same k k3 steps) c.requires.call.begun in
    may_replace c.replace.ensures (record { decided = c.exchange_decided.ensures; transfer = c.transfer.ensures.lawful; tests = c.transfer.ensures.tests }) t at m old k k2 k3 (read_alone c.args.words.now.terms c.args.leaf.now c.args.member.now c.args.me.now c.load_node.new.me c.read_held-content.new.me c.load_node.result c.read_held-content.result c.requires.alone c.load_node.ensures.log c.read_held-content.ensures.reads c.read_held-content.ensures.holdings) (read_tree c.args.words.now.terms c.args.leaf.now c.args.member.now c.args.me.now c.load_node.new.me c.read_held-content.new.me c.load_node.result c.read_held-content.result c.requires.alone c.load_node.ensures.log c.read_held-content.ensures.reads c.read_held-content.ensures.holdings c.load_node.ensures.tree)
    (cut_leaf t at k c.load_node.new.me c.load_node.result c.requires.alone c.load_node.ensures.log c.requires.level) c.requires.level c.requires.here c.requires.held (read_written c.args.words.now.terms c.args.leaf.now c.args.member.now c.args.me.now c.load_node.new.me c.read_held-content.new.me c.load_node.result c.read_held-content.result c.requires.alone c.load_node.ensures.log c.read_held-content.ensures.reads c.read_held-content.ensures.holdings c.write_held.new.me c.replace_entry.result c.replace_entry.ensures c.write_held.ensures.stores c.write_held.ensures.spells) (omega (arith, some)) (c.requires.span, c.requires.call.payload) (steps.calls.caller.loader ∙ c.requires.call.loader)

pub returns : goal.returns
returns c =
    let t = c.args.words.now.terms in let at = c.args.leaf.now in let m = c.args.member.now in let old = c.args.old.now in
    let k = c.args.me.now in let k1 = c.load_node.new.me in let k2 = c.read_held-content.new.me in let k3 = c.write_held.new.me in
    let found = c.load_node.result in let content = c.read_held-content.result in let alone = c.requires.alone in let load = c.load_node.ensures.log in
    let reads = c.read_held-content.ensures.reads in let same = c.read_held-content.ensures.holdings in
    let leaf = cut_leaf t at k k1 found alone load c.requires.level in
    let now_alone = read_alone t at m k k1 k2 found content alone load reads same in
    let tree = read_tree t at m k k1 k2 found content alone load reads same c.load_node.ensures.tree in
    let written = read_written t at m k k1 k2 found content alone load reads same k3 c.replace_entry.result c.replace_entry.ensures c.write_held.ensures.stores c.write_held.ensures.spells in
    let steps = written_steps t at m k k1 k2 found content alone load reads same k3 c.replace_entry.result c.replace_entry.ensures c.write_held.ensures.stores c.write_held.ensures.spells in
    let laws : LeafLaws = record { decided = c.exchange_decided.ensures; transfer = c.transfer.ensures.lawful; tests = c.transfer.ensures.tests } in
    let log = c.commit.ensures.log in
    replace_so c.replace.ensures laws t at m old k k2 k3 now_alone tree leaf c.requires.level c.requires.here c.requires.held written c.commit.new.me log.0 c.commit.result true (written.stored at.content now_alone.here.spells (differs c.replace.ensures laws t at m old k k2 k3 now_alone tree leaf c.requires.level c.requires.here c.requires.held written c.requires.other)) steps c.requires.call.terms log.1 c.commit.ensures.number c.commit.ensures.rest

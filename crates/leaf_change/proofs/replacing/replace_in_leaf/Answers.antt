use Rattle.std.proofs.Common.{◌<◌, ◌∙◌, ap, arith}
use Rattle.tree_shape.specs.NodeData.{entries_of}
use Rattle.word_rule.specs.CallerData.{CallerData, due}
use Rattle.tree_descent.proofs.Spending.{spends_same}
use Rattle.leaf_change.proofs.LeafCommits.{LeafLaws}
use Rattle.leaf_change.proofs.Replacings.{is_member, kept_leaf, may_replace, paid_leaf, replace_so, unwritten, unwritten_stored}
use Rattle.leaf_change.proofs.Spending.{due_after}
use Rattle.leaf_change.proofs.TakingThere.{cut_alone, cut_leaf, cut_steps, cut_tree}
use Rattle.leaf_change.proofs.replacing.replace_in_leaf.Goals as goal

pub commit-number-requires-clause-table : goal.commit-number-requires-clause-table
commit-number-requires-clause-table c = ap (λ (z : CallerData). z.table) c.load_node.ensures.log ∙ c.requires.call.table

pub commit-number-requires-clause-due : goal.commit-number-requires-clause-due
commit-number-requires-clause-due c = due_after 0 c.args.me.now c.load_node.new.me (spends_same c.args.me.now c.load_node.new.me (cut_steps c.args.words.now.terms c.args.leaf.now c.args.me.now c.load_node.new.me c.load_node.result c.requires.alone c.load_node.ensures.log)) c.requires.call.begun

pub commit-number-requires-clause-may : goal.commit-number-requires-clause-may
commit-number-requires-clause-may c =
    let t = c.args.words.now.terms in let at = c.args.leaf.now in let m = c.args.member.now in let old = c.args.old.now in let k = c.args.me.now in let k1 = c.load_node.new.me in
    let now_alone = cut_alone c.args.words.now.terms c.args.leaf.now c.args.me.now c.load_node.new.me c.load_node.result c.requires.alone c.load_node.ensures.log in
    let steps = cut_steps c.args.words.now.terms c.args.leaf.now c.args.me.now c.load_node.new.me c.load_node.result c.requires.alone c.load_node.ensures.log in
    let some : 0 < due k1 = due_after 0 k k1 (spends_same k k1 steps) c.requires.call.begun in
    may_replace c.replace.ensures (record { decided = c.exchange_decided.ensures; transfer = c.transfer.ensures.lawful; tests = c.transfer.ensures.tests }) t at m old k k1 k1 now_alone (cut_tree c.args.words.now.terms c.args.leaf.now c.args.me.now c.load_node.new.me c.load_node.result c.requires.alone c.load_node.ensures.log c.load_node.ensures.tree) (cut_leaf c.args.words.now.terms c.args.leaf.now c.args.me.now c.load_node.new.me c.load_node.result c.requires.alone c.load_node.ensures.log c.requires.level)
    c.requires.level c.requires.here c.requires.held (unwritten t at (paid_leaf m at.content) k1 now_alone (kept_leaf c.args.words.now.terms c.args.leaf.now c.args.me.now c.load_node.new.me c.load_node.result c.requires.alone c.load_node.ensures.log m c.requires.level (is_member m old (entries_of at.content) c.requires.held c.if-old-member.true))) (omega (arith, some)) (c.requires.span, c.requires.call.payload) (steps.calls.caller.loader ∙ c.requires.call.loader)

pub returns-then-old-member : goal.returns-then-old-member
returns-then-old-member c =
    let t = c.args.words.now.terms in let at = c.args.leaf.now in let m = c.args.member.now in let old = c.args.old.now in let k = c.args.me.now in let k1 = c.load_node.new.me in
    let now_alone = cut_alone c.args.words.now.terms c.args.leaf.now c.args.me.now c.load_node.new.me c.load_node.result c.requires.alone c.load_node.ensures.log in
    let laws : LeafLaws = record { decided = c.exchange_decided.ensures; transfer = c.transfer.ensures.lawful; tests = c.transfer.ensures.tests } in
    let same = kept_leaf c.args.words.now.terms c.args.leaf.now c.args.me.now c.load_node.new.me c.load_node.result c.requires.alone c.load_node.ensures.log m c.requires.level (is_member m old (entries_of at.content) c.requires.held c.if-old-member.true) in
    let log = c.commit-number.ensures.log in
    replace_so c.replace.ensures laws t at m old k k1 k1 now_alone (cut_tree c.args.words.now.terms c.args.leaf.now c.args.me.now c.load_node.new.me c.load_node.result c.requires.alone c.load_node.ensures.log c.load_node.ensures.tree) (cut_leaf c.args.words.now.terms c.args.leaf.now c.args.me.now c.load_node.new.me c.load_node.result c.requires.alone c.load_node.ensures.log c.requires.level) c.requires.level c.requires.here c.requires.held (unwritten t at (paid_leaf m at.content) k1 now_alone same)
    c.commit-number.new.me log.0 c.commit-number.result at.changed (unwritten_stored t at (paid_leaf m at.content) k1 now_alone same) (cut_steps c.args.words.now.terms c.args.leaf.now c.args.me.now c.load_node.new.me c.load_node.result c.requires.alone c.load_node.ensures.log) c.requires.call.terms log.1 c.commit-number.ensures.number c.commit-number.ensures.rest

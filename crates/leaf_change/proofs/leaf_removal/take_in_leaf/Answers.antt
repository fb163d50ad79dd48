use Rattle.std.proofs.Common.{◌≡◌, [], ◌-◌, ◌<◌, ◌∙◌, ap, arith}
use Rattle.reg_model.specs.History.{without}
use Rattle.tree_shape.specs.NodeData.{InOrder, IsLeaf, Entries, entries_of}
use Rattle.word_rule.specs.CallerData.{CallerData}
use Rattle.node_store.specs.Entries.{leaf_without}
use Rattle.tree_descent.specs.Paths.{StepsOnNodes}
use Rattle.tree_descent.proofs.Lowering.{settled_order}
use Rattle.tree_descent.proofs.NodeSteps.{steps_then}
use Rattle.tree_descent.proofs.Spending.{spends_same}
use Rattle.tree_descent.proofs.Storing.{IsRewritten}
use Rattle.leaf_change.proofs.Spending.{due_after}
use Rattle.leaf_change.proofs.Takings.{may_take, take_so}
use Rattle.leaf_change.proofs.TakingThere.{cut_alone, cut_leaf, cut_spells, cut_steps, cut_there, cut_tree, cut_written, may_cut_there, taken_there}
use Rattle.leaf_change.proofs.leaf_removal.take_in_leaf.Goals.{After-cut_in_place-member, After-load_node}
use Rattle.leaf_change.proofs.leaf_removal.take_in_leaf.Goals as goal

leaf : (c : After-load_node) → IsLeaf c.args.leaf.now.content
leaf c = cut_leaf c.args.words.now.terms c.args.leaf.now c.args.me.now c.load_node.new.me c.load_node.result c.requires.alone c.load_node.ensures.log c.requires.level

order : (c : After-load_node) → InOrder c.args.leaf.now.content
order c = let at = c.args.leaf.now in settled_order c.args.words.now.terms at.node at.content at.changed c.requires.alone.lock c.requires.alone.here

-- where the entry stands, and what the leaf is without it
there : (c : After-load_node) → (0 < c.args.begun) × (leaf_without (c.args.begun - 1) c.args.leaf.now.content ≡ record c.args.leaf.now.content { body = Entries (without c.args.base (entries_of c.args.leaf.now.content)) })
there c = cut_there c.args.base c.args.begun c.args.leaf.now.content (leaf c) (order c) c.requires.held c.requires.begun

pub overflow_sub-begun : goal.overflow_sub-begun
overflow_sub-begun c = (there (goal.at.overflow_sub-begun c).After-load_node).0

pub cut_in_place-member-requires-clause-table : goal.cut_in_place-member-requires-clause-table
cut_in_place-member-requires-clause-table c = ap (λ (z : CallerData). z.table) c.load_node.ensures.log ∙ c.requires.table

pub cut_in_place-member-requires-clause-may : goal.cut_in_place-member-requires-clause-may
cut_in_place-member-requires-clause-may c = may_cut_there c.args.words.now.terms c.args.leaf.now c.args.me.now c.load_node.new.me c.load_node.result c.requires.alone c.load_node.ensures.log

pub cut_in_place-member-requires-clause-spells : goal.cut_in_place-member-requires-clause-spells
cut_in_place-member-requires-clause-spells c = cut_spells c.args.words.now.terms c.args.leaf.now c.args.me.now c.load_node.new.me c.load_node.result c.requires.alone c.load_node.ensures.log

pub cut_in_place-member-requires-clause-leaf : goal.cut_in_place-member-requires-clause-leaf
cut_in_place-member-requires-clause-leaf c = cut_leaf c.args.words.now.terms c.args.leaf.now c.args.me.now c.load_node.new.me c.load_node.result c.requires.alone c.load_node.ensures.log c.requires.level

pub cut_in_place-member-requires-clause-place : goal.cut_in_place-member-requires-clause-place
cut_in_place-member-requires-clause-place c = let some = (there (goal.at.cut_in_place-member-requires-clause-place c).After-load_node).0 in omega (arith, some, c.requires.few)

written : (c : After-cut_in_place-member) → leaf_without (c.args.begun - 1) c.args.leaf.now.content ≡ record c.args.leaf.now.content { body = Entries (without c.args.base (entries_of c.args.leaf.now.content)) } → IsRewritten (record c.args.leaf.now.content { body = Entries (without c.args.base (entries_of c.args.leaf.now.content)) }) (cut_alone c.args.words.now.terms c.args.leaf.now c.args.me.now c.load_node.new.me c.load_node.result c.requires.alone c.load_node.ensures.log).lock [] [] c.load_node.new.me c.cut_in_place-member.new.me
written c is = cut_written c.args.words.now.terms c.args.leaf.now c.args.me.now c.load_node.new.me c.load_node.result c.requires.alone c.load_node.ensures.log c.args.base c.args.begun c.cut_in_place-member.new.me is c.cut_in_place-member.ensures.stores c.cut_in_place-member.ensures.spells

steps : (c : After-cut_in_place-member) → leaf_without (c.args.begun - 1) c.args.leaf.now.content ≡ record c.args.leaf.now.content { body = Entries (without c.args.base (entries_of c.args.leaf.now.content)) } → StepsOnNodes c.args.me.now c.cut_in_place-member.new.me
steps c is = steps_then c.args.me.now c.load_node.new.me c.cut_in_place-member.new.me (cut_steps c.args.words.now.terms c.args.leaf.now c.args.me.now c.load_node.new.me c.load_node.result c.requires.alone c.load_node.ensures.log) (written c is).same

pub commit-number-requires-clause-due : goal.commit-number-requires-clause-due
commit-number-requires-clause-due c =
    let at = goal.at.commit-number-requires-clause-due c in
    due_after 0 c.args.me.now c.cut_in_place-member.new.me (spends_same c.args.me.now c.cut_in_place-member.new.me (steps at.After-cut_in_place-member (there at.After-load_node).1)) c.requires.due

pub commit-number-requires-clause-may : goal.commit-number-requires-clause-may
commit-number-requires-clause-may c =
    let at = goal.at.commit-number-requires-clause-may c in let is = (there at.After-load_node).1 in let stepped = steps at.After-cut_in_place-member is in
    let some = due_after 0 c.args.me.now c.cut_in_place-member.new.me (spends_same c.args.me.now c.cut_in_place-member.new.me stepped) c.requires.due in
    may_take c.take.ensures.change (record { decided = c.exchange_decided.ensures; transfer = c.transfer.ensures.lawful; tests = c.transfer.ensures.tests }) c.args.words.now.terms c.args.leaf.now c.args.base c.cut_in_place-member.result c.args.me.now c.load_node.new.me c.cut_in_place-member.new.me (cut_alone c.args.words.now.terms c.args.leaf.now c.args.me.now c.load_node.new.me c.load_node.result c.requires.alone c.load_node.ensures.log) (cut_tree c.args.words.now.terms c.args.leaf.now c.args.me.now c.load_node.new.me c.load_node.result c.requires.alone c.load_node.ensures.log c.load_node.ensures.tree) (leaf at.After-load_node) c.requires.level c.requires.here c.requires.spare (taken_there c.args.base c.args.begun c.args.leaf.now.content c.cut_in_place-member.result (leaf at.After-load_node) (order at.After-load_node) c.requires.held c.requires.begun c.cut_in_place-member.ensures.entry) (written at.After-cut_in_place-member is) (omega (arith, some)) (stepped.calls.caller.loader ∙ c.requires.loader)

pub returns : goal.returns
returns c =
    let at = goal.at.returns c in let is = (there at.After-load_node).1 in let log = c.commit-number.ensures.log in
    take_so c.take.ensures.change (record { decided = c.exchange_decided.ensures; transfer = c.transfer.ensures.lawful; tests = c.transfer.ensures.tests }) c.args.words.now.terms c.args.leaf.now c.args.base c.cut_in_place-member.result c.args.me.now c.load_node.new.me c.cut_in_place-member.new.me (cut_alone c.args.words.now.terms c.args.leaf.now c.args.me.now c.load_node.new.me c.load_node.result c.requires.alone c.load_node.ensures.log) (cut_tree c.args.words.now.terms c.args.leaf.now c.args.me.now c.load_node.new.me c.load_node.result c.requires.alone c.load_node.ensures.log c.load_node.ensures.tree) (leaf at.After-load_node) c.requires.level c.requires.here c.requires.spare (taken_there c.args.base c.args.begun c.args.leaf.now.content c.cut_in_place-member.result (leaf at.After-load_node) (order at.After-load_node) c.requires.held c.requires.begun c.cut_in_place-member.ensures.entry) (written at.After-cut_in_place-member is) c.commit-number.new.me log.0 c.commit-number.result (steps at.After-cut_in_place-member is) c.requires.terms log.1 c.commit-number.ensures.number c.commit-number.ensures.rest

use Rattle.std.proofs.Common.{◌∙◌, true, ap}
use Rattle.word_rule.specs.CallerData.{CallerData}
use Rattle.leaf_change.proofs.Answering.{AnswersHere, here_ends, here_lowest, here_surplus}
use Rattle.leaf_change.proofs.PuttingThere.{may_commit_put, put_answers, put_due}
use Rattle.leaf_change.proofs.Releasing.{lowest_may}
use Rattle.leaf_change.proofs.TakingThere.{cut_leaf, cut_spells, may_cut_there}
use Rattle.leaf_change.proofs.leaf.put_in_held.Goals.{After-commit-number}
use Rattle.reg_model.specs.declared.answer.Inserted.TheVariants as inserted
use Rattle.leaf_change.proofs.leaf.put_in_held.Goals as goal

pub put_in_place-requires-clause-table : goal.put_in_place-requires-clause-table
put_in_place-requires-clause-table g c = ap (λ (z : CallerData). z.table) c.load_node.ensures.log ∙ c.requires.call.table

pub put_in_place-requires-clause-may : goal.put_in_place-requires-clause-may
put_in_place-requires-clause-may g c = may_cut_there c.args.words.now.terms c.args.leaf.now c.args.me.now c.load_node.new.me c.load_node.result c.requires.fits.alone c.load_node.ensures.log

pub put_in_place-requires-clause-spells : goal.put_in_place-requires-clause-spells
put_in_place-requires-clause-spells g c = cut_spells c.args.words.now.terms c.args.leaf.now c.args.me.now c.load_node.new.me c.load_node.result c.requires.fits.alone c.load_node.ensures.log

pub put_in_place-requires-clause-leaf : goal.put_in_place-requires-clause-leaf
put_in_place-requires-clause-leaf g c = cut_leaf c.args.words.now.terms c.args.leaf.now c.args.me.now c.load_node.new.me c.load_node.result c.requires.fits.alone c.load_node.ensures.log c.requires.fits.level

pub commit-number-requires-clause-due : goal.commit-number-requires-clause-due
commit-number-requires-clause-due g c = put_due c.args.words.now.terms c.args.leaf.now c.args.placed.now.member c.args.placed.now.place c.args.me.now c.load_node.new.me c.put_in_place.new.me c.load_node.result c.requires.fits c.load_node.ensures.log c.requires.place c.put_in_place.ensures.stores c.put_in_place.ensures.spells c.requires.call.begun

pub commit-number-requires-clause-may : goal.commit-number-requires-clause-may
commit-number-requires-clause-may g c =
    may_commit_put c.args.words.now.terms c.args.leaf.now c.args.placed.now.member c.args.placed.now.place c.args.me.now c.load_node.new.me c.put_in_place.new.me c.load_node.result c.requires.fits c.load_node.ensures.log c.requires.place c.put_in_place.ensures.stores c.put_in_place.ensures.spells
    c.put.ensures.change (record { decided = c.exchange_decided.ensures; transfer = c.transfer.ensures.lawful; tests = c.transfer.ensures.tests }) c.requires.span c.load_node.ensures.tree c.requires.call.begun c.requires.call.payload c.requires.call.loader

-- the member was put there, and the leaf has settled
here : (g : _) (c : After-commit-number g) → AnswersHere c.args.words.now.terms c.args.placed.now.member c.args.leaf.now.node (inserted.Done c.commit-number.result) true c.args.me.now c.commit-number.new.me
here g c =
    let log = c.commit-number.ensures.log in
    put_answers c.args.words.now.terms c.args.leaf.now c.args.placed.now.member c.args.placed.now.place c.args.me.now c.load_node.new.me c.put_in_place.new.me c.load_node.result c.requires.fits c.load_node.ensures.log c.requires.place c.put_in_place.ensures.stores c.put_in_place.ensures.spells
    c.put.ensures.change (record { decided = c.exchange_decided.ensures; transfer = c.transfer.ensures.lawful; tests = c.transfer.ensures.tests }) c.requires.span c.load_node.ensures.tree c.commit-number.new.me c.commit-number.result log.0 log.1 c.commit-number.ensures.number c.commit-number.ensures.rest

pub let_go_of-requires-clause-table : goal.let_go_of-requires-clause-table
let_go_of-requires-clause-table g c = (here g (goal.at.let_go_of-requires-clause-table g c).After-commit-number).call.caller.table ∙ c.requires.call.table

pub let_go_of-requires-clause-inside : goal.let_go_of-requires-clause-inside
let_go_of-requires-clause-inside g c = c.requires.fits.alone.within

pub let_go_of-requires-clause-may : goal.let_go_of-requires-clause-may
let_go_of-requires-clause-may g c = lowest_may _ _ _ (here_lowest c.args.words.now.terms c.args.placed.now.member c.args.leaf.now.node (inserted.Done c.commit-number.result) true c.args.me.now c.commit-number.new.me (here g (goal.at.let_go_of-requires-clause-may g c).After-commit-number))

pub let_go_of-requires-clause-surplus : goal.let_go_of-requires-clause-surplus
let_go_of-requires-clause-surplus g c = here_surplus c.args.words.now.terms c.args.placed.now.member c.args.leaf.now.node (inserted.Done c.commit-number.result) true c.args.me.now c.commit-number.new.me (here g (goal.at.let_go_of-requires-clause-surplus g c).After-commit-number) 1 c.requires.call.spare

pub returns-clause-answer : goal.returns-clause-answer
returns-clause-answer g c = here_ends c.args.words.now.terms c.args.placed.now.member c.args.leaf.now.node (inserted.Done c.commit-number.result) true c.args.me.now c.commit-number.new.me (here g (goal.at.returns-clause-answer g c).After-commit-number) c.let_go_of.new.me c.let_go_of.ensures

use Rattle.std.proofs.Common.{◌+◌, [], arith, length, refl, ◌∙◌}
use Rattle.tree_descent.proofs.Spending.{steps_after, surplus_steps}
use Rattle.btree_change.specs.Stands.{kept_above}
use Rattle.btree_change.proofs.KeptPaths.{kept_gone, kept_may, kept_within}
use Rattle.btree_change.proofs.stand.let_go_of_all.Goals as goal

pub let_go_of-requires-clause-inside : goal.let_go_of-requires-clause-inside
let_go_of-requires-clause-inside g c = kept_within c.args.words.now.terms c.args.lowest (kept_above c.args.beyond) [] c.args.me.now.log.holdings c.requires.path

pub let_go_of-requires-clause-may : goal.let_go_of-requires-clause-may
let_go_of-requires-clause-may g c = kept_may c.args.words.now.terms c.args.lowest (kept_above c.args.beyond) [] c.args.me.now.log.holdings c.requires.path

pub let_go_of-requires-clause-surplus : goal.let_go_of-requires-clause-surplus
let_go_of-requires-clause-surplus g c = let e = c.requires.surplus in omega (arith, e)

pub let_go_of_kept-requires-clause-table : goal.let_go_of_kept-requires-clause-table
let_go_of_kept-requires-clause-table g c = c.let_go_of.ensures.steps.calls.caller.table ∙ c.requires.table

pub let_go_of_kept-requires-clause-path : goal.let_go_of_kept-requires-clause-path
let_go_of_kept-requires-clause-path g c = ([], kept_gone c.args.words.now.terms c.args.lowest (kept_above c.args.beyond) [] c.args.me.now.log.holdings c.requires.path c.args.me.now c.let_go_of.new.me refl c.let_go_of.ensures)

pub let_go_of_kept-requires-clause-surplus : goal.let_go_of_kept-requires-clause-surplus
let_go_of_kept-requires-clause-surplus g c = let e = c.requires.surplus in surplus_steps 1 c.args.me.now c.let_go_of.new.me (length (kept_above c.args.beyond)) c.let_go_of.ensures.steps (omega (arith, e))

pub returns : goal.returns
returns g c =
    let k = c.args.me.now in let k1 = c.let_go_of.new.me in let k2 = c.let_go_of_kept.new.me in
    let left = c.let_go_of_kept.ensures [] (kept_gone c.args.words.now.terms c.args.lowest (kept_above c.args.beyond) [] k.log.holdings c.requires.path k k1 refl c.let_go_of.ensures) in record {
      steps = steps_after 1 (length (kept_above c.args.beyond)) (length (kept_above c.args.beyond) + 1) k k1 k2 (omega arith) c.let_go_of.ensures.steps left.steps;
      held = left.held;
      out = left.out ∙ c.let_go_of.ensures.out;
    }

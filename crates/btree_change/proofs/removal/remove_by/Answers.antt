use Rattle.std.proofs.Common.{◌∙◌, ap, sym, subst, true}
use Rattle.word_rule.specs.CallerData.{CallerData}
use Rattle.word_rule.specs.declared.log.Holdings.{Holdings}
use Rattle.tree_descent.specs.Paths.{HoldsNothing}
use Rattle.tree_descent.specs.Removing.{HoldsLock}
use Rattle.tree_descent.proofs.Outlining.{steps_of_loads}
use Rattle.tree_descent.proofs.Releases.{alone_lock, lock_gone, lock_may}
use Rattle.btree_change.proofs.RemovalAnswers.{done_so, read_spends, refusal_so, surplus_refused, surplus_taken}
use Rattle.btree_change.proofs.removal.remove_by.Goals as goal

pub let_go_of-requires-clause-may : goal.let_go_of-requires-clause-may
let_go_of-requires-clause-may g c =
    let leaf = c.in_ok-leaf.leaf in let k3 = c.not_found.new.me in
    let same = c.in-Some.ensures.none.call.holdings ∙ ap (λ (z : CallerData). z.log.holdings) c.begun_in-begun.ensures.loads.1 in
    lock_may leaf.node leaf.changed k3.log.holdings (subst (HoldsLock leaf.node leaf.changed) (sym same) (alone_lock c.args.words.now.terms leaf c.leaf_for.new.me.log.holdings c.in_ok-leaf.ensures.ok.0.0))

pub let_go_of-requires-clause-surplus : goal.let_go_of-requires-clause-surplus
let_go_of-requires-clause-surplus g c = surplus_refused c.args.words.now.terms c.args.base c.in-Some.answer c.args.me.now c.begun_in-begun.new.me c.not_found.new.me (read_spends c.args.me.now c.leaf_for.new.me c.begun_in-begun.new.me c.in_ok-leaf.ensures.spends (steps_of_loads c.leaf_for.new.me c.begun_in-begun.new.me c.begun_in-begun.ensures.loads)) c.requires.surplus c.in-Some.ensures.none

pub returns-in-Some-clause-answer : goal.returns-in-Some-clause-answer
returns-in-Some-clause-answer g c =
    let leaf = c.in_ok-leaf.leaf in let k3 = c.not_found.new.me in
    let same = c.in-Some.ensures.none.call.holdings ∙ ap (λ (z : CallerData). z.log.holdings) c.begun_in-begun.ensures.loads.1 in
    let held = subst (HoldsLock leaf.node leaf.changed) (sym same) (alone_lock c.args.words.now.terms leaf c.leaf_for.new.me.log.holdings c.in_ok-leaf.ensures.ok.0.0) in
    let nothing : HoldsNothing c.let_go_of.new.me.log.holdings = (lock_gone leaf.node leaf.changed k3 c.let_go_of.new.me held c.let_go_of.ensures, c.let_go_of.ensures.out ∙ (ap (λ (hs : Holdings). hs.out) same ∙ c.in_ok-leaf.ensures.ok.0.0.out)) in
    refusal_so c.args.words.now.terms c.args.base c.in-Some.answer c.args.me.now c.begun_in-begun.new.me k3 c.let_go_of.new.me (read_spends c.args.me.now c.leaf_for.new.me c.begun_in-begun.new.me c.in_ok-leaf.ensures.spends (steps_of_loads c.leaf_for.new.me c.begun_in-begun.new.me c.begun_in-begun.ensures.loads)) c.in-Some.ensures.none c.let_go_of.ensures.steps nothing

pub take_in_leaf-number-requires-clause-loader : goal.take_in_leaf-number-requires-clause-loader
take_in_leaf-number-requires-clause-loader g c =
    ap (λ (z : CallerData). z.log.loader) c.in_default.ensures.found.1.1 ∙ (ap (λ (z : CallerData). z.log.loader) c.begun_in-begun.ensures.loads.1 ∙ (c.in_ok-leaf.ensures.spends.calls.caller.loader ∙ c.requires.idle.loader))

pub let_go_of-requires-2-clause-may : goal.let_go_of-requires-2-clause-may
let_go_of-requires-2-clause-may g c = lock_may c.in_ok-leaf.leaf.node true c.take_in_leaf-number.new.me.log.holdings c.take_in_leaf-number.ensures.call.holds

pub let_go_of-requires-2-clause-surplus : goal.let_go_of-requires-2-clause-surplus
let_go_of-requires-2-clause-surplus g c = surplus_taken c.args.words.now.terms c.args.base c.in_ok-leaf.leaf.node c.take_in_leaf-number.result.0 c.take_in_leaf-number.result.1 c.args.me.now c.not_found.new.me c.take_in_leaf-number.new.me (read_spends c.args.me.now c.begun_in-begun.new.me c.not_found.new.me (read_spends c.args.me.now c.leaf_for.new.me c.begun_in-begun.new.me c.in_ok-leaf.ensures.spends (steps_of_loads c.leaf_for.new.me c.begun_in-begun.new.me c.begun_in-begun.ensures.loads)) (steps_of_loads c.begun_in-begun.new.me c.not_found.new.me c.in_default.ensures.found.1)) c.requires.surplus c.take_in_leaf-number.ensures

pub returns-clause-answer : goal.returns-clause-answer
returns-clause-answer g c =
    let k4 = c.take_in_leaf-number.new.me in let k5 = c.let_go_of-2.new.me in let takes = c.take_in_leaf-number.ensures in
    let nothing : HoldsNothing k5.log.holdings = (lock_gone c.in_ok-leaf.leaf.node true k4 k5 takes.call.holds c.let_go_of-2.ensures, c.let_go_of-2.ensures.out ∙ takes.call.out) in
    done_so c.args.words.now.terms c.args.base c.in_ok-leaf.leaf.node c.take_in_leaf-number.result.0 c.take_in_leaf-number.result.1 c.args.me.now c.not_found.new.me k4 k5 (read_spends c.args.me.now c.begun_in-begun.new.me c.not_found.new.me (read_spends c.args.me.now c.leaf_for.new.me c.begun_in-begun.new.me c.in_ok-leaf.ensures.spends (steps_of_loads c.leaf_for.new.me c.begun_in-begun.new.me c.begun_in-begun.ensures.loads)) (steps_of_loads c.begun_in-begun.new.me c.not_found.new.me c.in_default.ensures.found.1)) takes c.let_go_of-2.ensures.steps nothing

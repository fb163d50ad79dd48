use Rattle.std.proofs.Common.{◌-◌, ◌∙◌, ap, arith}
use Rattle.std.proofs.lemmas.Result.{err_from_is_err_and}
use Rattle.tree_descent.specs.declared.descent.Held.{Held}
use Rattle.tree_descent.proofs.Loading.{found_after}
use Rattle.tree_descent.proofs.Spending.{more_spent, spends_same, steps_after}
use Rattle.btree_change.proofs.RemovalAnswers.{under_left, under_may, child_under}
use Rattle.btree_change.proofs.replacement.leaf_for.Goals as goal

pub loop-me-init : goal.loop-me-init
loop-me-init g c =
    let at = c.in_ok-at.at in let k1 = c.begin.new.me in let ok = c.in_ok-at.ensures.ok in record {
      alone = ok.0;
      here = ok.1;
      low = ok.2;
      spends = more_spent 0 (12 - at.content.level) c.args.me.now k1 (omega arith) (spends_same c.args.me.now k1 c.in_ok-at.ensures.same);
    }

pub let_go_of-requires-clause-may : goal.let_go_of-requires-clause-may
let_go_of-requires-clause-may g c = let child = c.in_ok-child.child in under_may c.args.words.now.terms child.above.node child.above.changed child.at c.take_child.new.me.log.holdings (child_under c.args.words.now.terms child c.args.pc c.take_child.new.me.log.holdings c.in_ok-child.ensures.ok.0)

pub loop-me-preserved : goal.loop-me-preserved
loop-me-preserved g c =
    let t = c.args.words.now.terms in let child = c.in_ok-child.child in let k = c.args.me.now in let k1 = c.take_child.new.me in let k2 = c.let_go_of.new.me in
    let ok = c.in_ok-child.ensures.ok in let before = c.loop-me.at.content.level in let level = ok.0.level ∙ ap (λ (z : Held). z.content.level) ok.1 in
    let now = c.loop-me.invariant in let low = now.low in record {
      alone = under_left t child.above.node child.above.changed child.at k1 k2 (child_under t child c.args.pc k1.log.holdings ok.0) c.let_go_of.ensures;
      here = ok.0.fences;
      low = omega (arith, level, low);
      spends = steps_after (12 - before) 1 (12 - child.at.content.level) k c.loop-me.me k2 (omega (arith, level, low)) now.spends (steps_after 0 1 1 c.loop-me.me k1 k2 (omega arith) c.in_ok-child.ensures.free c.let_go_of.ensures.steps);
    }

pub returns-in_err-child-clause-cause : goal.returns-in_err-child-clause-cause
returns-in_err-child-clause-cause g c =
    let p = err_from_is_err_and c.from_residual-in_err-child.result c.from_residual-in_err-child.ensures.1 in
    rw (p.1, p.2) (found_after c.in_err-child.field-0.0 c.args.me.now c.loop-me.me c.take_child.new.me c.loop-me.invariant.spends.loads c.in_err-child.ensures.cause)

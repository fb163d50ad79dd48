use Rattle.std.proofs.Common.{◌-◌, ◌∙◌, length, ap, arith, refl, subst}
use Rattle.tree_descent.proofs.Spending.{more_spent, steps_after}
use Rattle.btree_change.specs.Kept.{HoldsPath}
use Rattle.btree_change.proofs.KeptPaths.{kept_gone, kept_may, kept_within, none_kept}
use Rattle.btree_change.proofs.path.let_go_of_path.Goals as goal

pub let_go_of-requires-clause-inside : goal.let_go_of-requires-clause-inside
let_go_of-requires-clause-inside g c =
    let t = c.args.words.now.terms in let k1 = c.loop-kept.me in let below = c.requires.path.0 in
    kept_within t c.in-Some.kept c.pop.new.self below k1.log.holdings (subst (λ p. HoldsPath t p below k1.log.holdings) c.in-Some.ensures.0 (c.loop-kept.invariant.holds below c.requires.path.1))

pub let_go_of-requires-clause-may : goal.let_go_of-requires-clause-may
let_go_of-requires-clause-may g c =
    let t = c.args.words.now.terms in let k1 = c.loop-kept.me in let below = c.requires.path.0 in
    kept_may t c.in-Some.kept c.pop.new.self below k1.log.holdings (subst (λ p. HoldsPath t p below k1.log.holdings) c.in-Some.ensures.0 (c.loop-kept.invariant.holds below c.requires.path.1))

pub loop-kept-preserved : goal.loop-kept-preserved
loop-kept-preserved g c =
    let t = c.args.words.now.terms in let k = c.args.me.now in let k1 = c.loop-kept.me in let k2 = c.let_go_of.new.me in let path = c.pop.new.self in
    let less = ap (λ xs. length xs) c.in-Some.ensures.0 in let fewer = c.loop-kept.invariant.fewer in record {
      holds = λ below holds. kept_gone t c.in-Some.kept path below k1.log.holdings (subst (λ p. HoldsPath t p below k1.log.holdings) c.in-Some.ensures.0 (c.loop-kept.invariant.holds below holds)) k1 k2 refl c.let_go_of.ensures;
      fewer = omega (arith, less, fewer);
      spends = steps_after (length c.args.path - length c.loop-kept.path) 1 (length c.args.path - length path) k k1 k2 (omega (arith, less, fewer)) c.loop-kept.invariant.spends c.let_go_of.ensures.steps;
      out = c.let_go_of.ensures.out ∙ c.loop-kept.invariant.out;
    }

pub returns : goal.returns
returns g c below holds =
    let t = c.args.words.now.terms in let k = c.args.me.now in let k1 = c.loop-kept.me in let e = c.in_default.ensures.0 in record {
      steps = more_spent (length c.args.path - length c.loop-kept.path) (length c.args.path) k k1 (omega arith) c.loop-kept.invariant.spends;
      held = none_kept t c.loop-kept.path below k1.log.holdings e (c.loop-kept.invariant.holds below holds);
      out = c.loop-kept.invariant.out;
    }

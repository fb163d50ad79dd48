use Rattle.std.proofs.Common.{◌+◌, ◌-◌, arith}
use Rattle.tree_descent.proofs.Loading.{found_after}
use Rattle.tree_descent.proofs.Spending.{more_spent, spends_same}
use Rattle.btree_change.proofs.removal.leaf_for.Goals as goal

pub loop-me-init : goal.loop-me-init
loop-me-init g c =
    let at = c.in_ok-at.at in let k1 = c.begin.new.me in let ok = c.in_ok-at.ensures.ok in record {
      alone = ok.0.0;
      here = ok.0.1;
      spare = ok.0.2;
      low = ok.1;
      spends = more_spent 0 (24 - (at.content.level + at.content.level)) c.args.me.now k1 (omega arith) (spends_same c.args.me.now k1 c.in_ok-at.ensures.same);
    }

pub returns-in-Err-clause-cause : goal.returns-in-Err-clause-cause
returns-in-Err-clause-cause g c = found_after c.in-Err.busy c.args.me.now c.loop-me.me c.step_down.new.me c.loop-me.invariant.spends.loads c.in-Err.ensures.cause

use Rattle.std.proofs.Common.{◌∙◌, ap, sym, arith}
use Rattle.tree_descent.specs.Releases.{Spends}
use Rattle.tree_descent.specs.declared.descent.Held.{Held}
use Rattle.tree_descent.proofs.Descents.{if_err}
use Rattle.tree_descent.proofs.Loading.{if_found_after, found_after, keeps_then, nothing_left}
use Rattle.tree_descent.proofs.Spending.{steps_after}
use Rattle.node_mend.proofs.HeldOutlines.{ordered_of}
use Rattle.btree_change.proofs.AtRoot.{if_ok}
use Rattle.btree_change.proofs.RemovalAnswers.{child_spare, child_under, under_left, under_may}
use Rattle.btree_change.proofs.removal.step_down.Goals as goal

pub let_go_of-requires-clause-may : goal.let_go_of-requires-clause-may
let_go_of-requires-clause-may g c = let child = c.in_ok-child.child in under_may c.args.words.now.terms child.above.node child.above.changed child.at c.take_child.new.me.log.holdings (child_under c.args.words.now.terms child c.args.pc c.take_child.new.me.log.holdings c.in_ok-child.ensures.ok.0)

pub returns-then-not-is_small-clause-ok : goal.returns-then-not-is_small-clause-ok
returns-then-not-is_small-clause-ok g c =
    let t = c.args.words.now.terms in let child = c.in_ok-child.child in let k1 = c.take_child.new.me in let ok = c.in_ok-child.ensures.ok in
    ((under_left t child.above.node child.above.changed child.at k1 c.let_go_of.new.me (child_under t child c.args.pc k1.log.holdings ok.0) c.let_go_of.ensures, ok.0.fences, child_spare child.at.node child.at.content (sym c.is_small.ensures ∙ c.if-not-is_small.true)), ok.0.level ∙ ap (λ (z : Held). z.content.level) ok.1)

pub returns-in-Err-clause-cause : goal.returns-in-Err-clause-cause
returns-in-Err-clause-cause g c = found_after c.in-Err.busy c.args.me.now c.take_child.new.me c.take_sibling.new.me c.in_ok-child.ensures.free.loads c.in-Err.ensures.cause

pub returns-in-Err-clause-busy : goal.returns-in-Err-clause-busy
returns-in-Err-clause-busy g c = (nothing_left c.in-Err.busy c.take_sibling.new.me.log.holdings c.in-Err.ensures.busy.0, c.in-Err.ensures.busy.1)

pub returns-in-Err-clause-most : goal.returns-in-Err-clause-most
returns-in-Err-clause-most g c = steps_after 0 1 3 c.args.me.now c.take_child.new.me c.take_sibling.new.me (omega arith) c.in_ok-child.ensures.free c.in-Err.ensures.spends

pub is_small-requires : goal.is_small-requires
is_small-requires g c = ordered_of c.args.words.now.terms c.in_ok-child.child.at.node c.in_ok-child.child.at.content c.in_ok-child.child.at.changed c.in_ok-child.ensures.ok.0.lower c.in_ok-child.ensures.ok.0.here

pub returns-in-Ok-clause-cause : goal.returns-in-Ok-clause-cause
returns-in-Ok-clause-cause g c = if_found_after c.mend.result c.args.me.now c.take_sibling.new.me c.mend.new.me (keeps_then c.args.me.now c.take_child.new.me c.take_sibling.new.me c.in_ok-child.ensures.free.loads c.in-Ok.ensures.free.loads) c.mend.ensures.cause

pub returns-in-Ok-clause-spends : goal.returns-in-Ok-clause-spends
returns-in-Ok-clause-spends g c =
    let k = c.args.me.now in let k1 = c.take_child.new.me in let k2 = c.take_sibling.new.me in let k3 = c.mend.new.me in
    if_ok (λ _. Spends 2 k2 k3) (λ _. Spends 2 k k3) c.mend.result (λ _ s. steps_after 0 2 2 k k2 k3 (omega arith) (steps_after 0 0 0 k k1 k2 (omega arith) c.in_ok-child.ensures.free c.in-Ok.ensures.free) s) c.mend.ensures.spends

pub returns-in-Ok-clause-most : goal.returns-in-Ok-clause-most
returns-in-Ok-clause-most g c =
    let k = c.args.me.now in let k1 = c.take_child.new.me in let k2 = c.take_sibling.new.me in let k3 = c.mend.new.me in
    if_err (λ _. Spends 3 k2 k3) (λ _. Spends 3 k k3) c.mend.result (λ _ s. steps_after 0 3 3 k k2 k3 (omega arith) (steps_after 0 0 0 k k1 k2 (omega arith) c.in_ok-child.ensures.free c.in-Ok.ensures.free) s) c.mend.ensures.most

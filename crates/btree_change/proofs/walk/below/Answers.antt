use Rattle.std.proofs.Common.{◌-◌, arith, ◌∙◌}
use Rattle.std.proofs.lemmas.Result.{err_from_is_err_and}
use Rattle.tree_descent.proofs.Loading.{found_after}
use Rattle.tree_descent.proofs.Spending.{surplus_steps}
use Rattle.btree_change.specs.Stands.{releases_from}
use Rattle.btree_change.proofs.AtRoot.{ends_part, gives_up_after}
use Rattle.btree_change.proofs.Going.{goes_nowhere, goes_on}
use Rattle.btree_change.proofs.NoRoom.{cause_below}
use Rattle.btree_change.proofs.Spending.{may_still, own_same}
use Rattle.btree_change.proofs.walk.below.Goals as goal

pub loop-me-init : goal.loop-me-init
loop-me-init g c = record { goes = goes_nowhere c.args.words.now.terms c.args.member.now c.args.stand c.args.me.now c.requires.stands }

pub go_below-requires-clause-table : goal.go_below-requires-clause-table
go_below-requires-clause-table g c = c.loop-me.invariant.goes.steps.calls.caller.table ∙ c.requires.call.table

pub go_below-requires-clause-terms : goal.go_below-requires-clause-terms
go_below-requires-clause-terms g c = c.loop-me.invariant.goes.steps.calls.caller.terms ∙ c.requires.call.terms

pub go_below-requires-clause-surplus : goal.go_below-requires-clause-surplus
go_below-requires-clause-surplus g c =
    let goes = c.loop-me.invariant.goes in let e = c.requires.call.spare in let fewer = goes.fewer in
    surplus_steps (releases_from c.args.stand - releases_from c.loop-me.stand) c.args.me.now c.loop-me.me (releases_from c.loop-me.stand) goes.steps (omega (arith, e, fewer))

pub loop-me-preserved : goal.loop-me-preserved
loop-me-preserved g c = record { goes = goes_on c.args.words.now.terms c.args.member.now c.args.stand c.loop-me.stand c.in_ok-stand.stand c.args.me.now c.loop-me.me c.go_below.new.me c.loop-me.invariant.goes c.in_ok-stand.ensures.ok }

pub in_leaf-requires-clause-call : goal.in_leaf-requires-clause-call
in_leaf-requires-clause-call g c =
    let goes = c.loop-me.invariant.goes in let from = releases_from c.args.stand in let left = releases_from c.loop-me.stand in let fewer = goes.fewer in
    may_still c.args.words.now c.args.member.now (from - left) from left c.args.me.now c.loop-me.me (omega (arith, fewer)) goes.steps c.requires.call

pub returns-in_err-stand : goal.returns-in_err-stand
returns-in_err-stand g c =
    let p = err_from_is_err_and c.from_residual.result c.from_residual.ensures.1 in
    let from = releases_from c.args.stand in let left = releases_from c.loop-me.stand in let goes = c.loop-me.invariant.goes in let fewer = goes.fewer in
    let k = c.args.me.now in let k1 = c.loop-me.me in let n = c.go_below.new.me in let why = c.in_err-stand.field-0.0 in let busy = c.in_err-stand.ensures.busy in
    rw (p.1, p.2) (gives_up_after (from - left) left from why k k1 n (omega (arith, fewer)) goes.steps busy.0, busy.1, found_after why k k1 n goes.steps.loads c.in_err-stand.ensures.cause)

pub returns : goal.returns
returns g c =
    let m = c.args.member.now in let stand = c.args.stand in let now = c.loop-me.stand in let from = releases_from stand in let left = releases_from now in
    let goes = c.loop-me.invariant.goes in let fewer = goes.fewer in let k = c.args.me.now in let k1 = c.loop-me.me in let n = c.in_leaf.new.me in
    ends_part c.args.words.now.terms m (from - left) left from stand.room now.room g.L.Locking.gives_up k k1 n c.in_leaf.result (omega (arith, fewer)) goes.steps
    (cause_below stand.room now.room m.span.first k k1 n (own_same (from - left) k k1 goes.steps) goes.steps.loads goes.cause) c.in_leaf.ensures

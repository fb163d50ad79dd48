use Rattle.std.proofs.Common.{ap, arith, sym, subst, length, ◌+◌, ◌∷◌, []}
use Rattle.tree_descent.proofs.Loading.{found_still}
use Rattle.tree_descent.proofs.Spending.{spends_same, surplus_steps}
use Rattle.btree_change.specs.Kept.{HoldsPath}
use Rattle.btree_change.proofs.AtRoot.{ends_after}
use Rattle.btree_change.proofs.FarLeaves.{at_next_so, busy_kept, gives_up, way_here}
use Rattle.btree_change.proofs.NoRoom.{cause_after, if_full}
use Rattle.btree_change.proofs.Spending.{may_still}
use Rattle.btree_change.specs.Far.{releases_far}
use Rattle.btree_change.proofs.beyond.beyond_leaf.Goals as goal

pub next_leaf-requires-clause-way : goal.next_leaf-requires-clause-way
next_leaf-requires-clause-way g c = way_here c.args.words.now.terms c.args.member.now c.args.far c.args.me.now c.requires.stands c.requires.level

pub at_next-requires-clause-at : goal.at_next-requires-clause-at
at_next-requires-clause-at g c =
    let n = c.in-Ok.ensures.next in let l = c.in-Ok.ensures.leaves in
    at_next_so c.args.words.now.terms c.args.member.now c.args.far c.args.me.now c.requires.stands c.requires.level c.in-Ok.right c.next_leaf.new.me n.0 n.1 n.2 n.3 l.0 l.1 c.in-Ok.ensures.same c.requires.free

pub let_go_of_all-requires-clause-path : goal.let_go_of_all-requires-clause-path
let_go_of_all-requires-clause-path g c =
    let t = c.args.words.now.terms in let far = c.args.far in let k1 = c.next_leaf.new.me in
    subst (λ x. HoldsPath t (x ∷ far.beyond.kept) [] k1.log.holdings) (sym c.kept-lowest.ensures) (busy_kept t c.args.member.now far c.args.me.now c.requires.stands c.requires.level c.in-Err.busy k1 c.in-Err.ensures.busy.0 c.in-Err.ensures.same)

pub let_go_of_all-requires-clause-surplus : goal.let_go_of_all-requires-clause-surplus
let_go_of_all-requires-clause-surplus g c =
    let enough = c.requires.call.spare in let same = spends_same c.args.me.now c.next_leaf.new.me c.in-Err.ensures.same in let s = surplus_steps 0 c.args.me.now c.next_leaf.new.me (length c.args.far.beyond.kept + 1) same (omega (arith, enough)) in omega (arith, s)

pub at_next-requires-clause-call : goal.at_next-requires-clause-call
at_next-requires-clause-call g c =
    let k = c.args.me.now in let k1 = c.next_leaf.new.me in
    may_still c.args.words.now c.args.member.now 0 (releases_far c.args.far) (releases_far c.args.far) k k1 (omega arith) (spends_same k k1 c.in-Ok.ensures.same) c.requires.call

pub returns-in-Ok : goal.returns-in-Ok
returns-in-Ok g c =
    let same = c.in-Ok.ensures.same in
    (ends_after c.args.words.now.terms c.args.member.now c.at_next.result 0 _ _ c.args.me.now c.next_leaf.new.me c.at_next.new.me (omega arith) (spends_same c.args.me.now c.next_leaf.new.me c.in-Ok.ensures.same) c.at_next.ensures.answer, if_full c.at_next.result (λ h. cause_after c.args.far.room c.args.member.now.span.first c.args.me.now c.next_leaf.new.me c.at_next.new.me (ap (λ r. r.own) same.calls.receipts) same.loads h) c.at_next.ensures.full)

pub returns-in-Err : goal.returns-in-Err
returns-in-Err g c =
    (gives_up c.args.words.now.terms c.args.member.now c.args.far c.args.me.now c.requires.stands c.requires.level c.in-Err.busy c.next_leaf.new.me c.in-Err.ensures.busy.0 c.in-Err.ensures.same c.let_go_of_all.new.me c.let_go_of_all.ensures, c.in-Err.ensures.busy.1, found_still c.in-Err.busy c.args.me.now c.next_leaf.new.me c.let_go_of_all.new.me c.in-Err.ensures.cause c.let_go_of_all.ensures.steps.loads)

use Rattle.std.proofs.Common.{arith}
use Rattle.tree_descent.proofs.Spending.{spends_same}
use Rattle.btree_change.proofs.AtRoot.{ends_after}
use Rattle.btree_change.proofs.FarLeaves.{is_ready, next_spelled, next_within, refused_ends, refused_holds, refused_surplus}
use Rattle.btree_change.proofs.Spending.{may_still}
use Rattle.btree_change.proofs.NoRoom.{cause_still, if_full}
use Rattle.btree_change.specs.Far.{releases_far}
use Rattle.btree_change.proofs.beyond.at_next.Goals as goal

pub refused_far-requires-clause-inside : goal.refused_far-requires-clause-inside
refused_far-requires-clause-inside g c = next_within c.args.words.now.terms c.args.member.now c.args.next c.args.me.now c.requires.at

pub refused_far-requires-clause-spells : goal.refused_far-requires-clause-spells
refused_far-requires-clause-spells g c = next_spelled c.args.words.now.terms c.args.member.now c.args.next c.args.me.now c.requires.at

pub let_go_far-requires-clause-holds : goal.let_go_far-requires-clause-holds
let_go_far-requires-clause-holds g c = refused_holds c.args.words.now.terms c.args.member.now c.args.next c.args.me.now c.requires.at c.in-Some.answer c.refused_far.new.me c.in-Some.ensures.refused

pub let_go_far-requires-clause-surplus : goal.let_go_far-requires-clause-surplus
let_go_far-requires-clause-surplus g c = refused_surplus c.args.words.now.terms c.args.member.now c.args.next c.args.me.now c.requires.at c.in-Some.answer c.refused_far.new.me c.in-Some.ensures.refused c.requires.call.spare

pub put_far-requires-clause-ready : goal.put_far-requires-clause-ready
put_far-requires-clause-ready g c =
    let none = c.in-None.ensures.none in
    is_ready c.args.words.now.terms c.args.member.now c.args.next c.args.me.now c.requires.at c.refused_far.new.me none.0 none.1 none.2 none.3

pub returns-in-Some-clause-answer : goal.returns-in-Some-clause-answer
returns-in-Some-clause-answer g c = refused_ends c.args.words.now.terms c.args.member.now c.args.next c.args.me.now c.requires.at c.in-Some.answer c.refused_far.new.me c.in-Some.ensures.refused c.let_go_far.new.me c.let_go_far.ensures.steps c.let_go_far.ensures.nothing

pub returns-clause-answer : goal.returns-clause-answer
returns-clause-answer g c = ends_after c.args.words.now.terms c.args.member.now c.put_far.result 0 _ _ c.args.me.now c.refused_far.new.me c.put_far.new.me (omega arith) (spends_same c.args.me.now c.refused_far.new.me c.in-None.ensures.same) c.put_far.ensures.answer

pub returns-in-Some-clause-full : goal.returns-in-Some-clause-full
returns-in-Some-clause-full g c = if_full c.in-Some.answer (λ h. cause_still c.args.next.far.room c.args.member.now.span.first c.args.me.now c.refused_far.new.me c.let_go_far.new.me h c.let_go_far.ensures.steps.loads) c.in-Some.ensures.full

pub returns-clause-full : goal.returns-clause-full
returns-clause-full g c = if_full c.put_far.result (λ never. absurd never) c.put_far.ensures.never_full

pub put_far-requires-clause-call : goal.put_far-requires-clause-call
put_far-requires-clause-call g c =
    let k = c.args.me.now in let k1 = c.refused_far.new.me in
    may_still c.args.words.now c.args.member.now 0 (releases_far c.args.next.far) (releases_far c.args.next.far) k k1 (omega arith) (spends_same k k1 c.in-None.ensures.same) c.requires.call

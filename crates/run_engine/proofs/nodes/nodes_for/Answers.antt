use Rattle.std.proofs.Common.{◌+◌, ◌*◌, ◌/◌, min, ap, ◌∙◌, arith}
use Rattle.std.proofs.lemmas.List.{take_all}
use Rattle.run_engine.specs.Nodes.{callers_asked, updates_asked}
use Rattle.run_engine.proofs.NodeCounts.{callers_few, callers_next, callers_within, enough_or_most, few_here, updates_few, updates_next, updates_within}
use Rattle.run_engine.proofs.nodes.nodes_for.Goals as goal

pub overflow_cast-callers : goal.overflow_cast-callers
overflow_cast-callers c =
    let few = few_here c.args.rounds.now c.loop-round.round-index c.loop-round-test.true c.round-item.result c.round.inside.threads.items c.round-item.is c.round.view_is c.requires.few.1 in
    let count = few.0 in
    let len = c.len.ensures in
    omega (arith, count, len, c.round.inside.threads.ok.0)

pub overflow_add-callers : goal.overflow_add-callers
overflow_add-callers c =
    let fits = callers_within c.args.rounds.now c.loop-round.round-index c.loop-round-test.true c.round-item.result c.round.inside.threads.items c.round-item.is c.round.view_is c.loop-round.callers c.loop-round.updates c.loop-round.invariant.callers c.loop-round.invariant.updates in
    let few = callers_few c.args.rounds.now c.requires.few.0 c.requires.few.1 in
    let len = c.len.ensures in
    omega (arith, fits, few, len, c.round.inside.threads.ok.0)

pub updates_in_round-updates-requires : goal.updates_in_round-updates-requires
updates_in_round-updates-requires c = few_here c.args.rounds.now c.loop-round.round-index c.loop-round-test.true c.round-item.result c.deref.result.now c.round-item.is (c.deref.ensures.value ∙ c.round.view_is) c.requires.few.1

pub overflow_add-updates : goal.overflow_add-updates
overflow_add-updates c =
    let fits = updates_within c.args.rounds.now c.loop-round.round-index c.loop-round-test.true c.round-item.result c.deref.result.now c.round-item.is (c.deref.ensures.value ∙ c.round.view_is) c.loop-round.callers c.loop-round.updates c.loop-round.invariant.callers c.loop-round.invariant.updates in
    let few = updates_few c.args.rounds.now c.requires.few.0 c.requires.few.1 in
    let here = c.updates_in_round-updates.ensures in
    omega (arith, fits, few, here)

pub loop-round-preserved : goal.loop-round-preserved
loop-round-preserved c =
    let i = c.loop-round.round-index in
    let is = c.deref.ensures.value ∙ c.round.view_is in
    let called = callers_next c.args.rounds.now i c.loop-round-test.true c.round-item.result c.deref.result.now c.round-item.is is c.loop-round.callers c.loop-round.updates c.loop-round.invariant.callers c.loop-round.invariant.updates in
    let asked = updates_next c.args.rounds.now i c.loop-round-test.true c.round-item.result c.deref.result.now c.round-item.is is c.loop-round.callers c.loop-round.updates c.loop-round.invariant.callers c.loop-round.invariant.updates in
    let here = c.updates_in_round-updates.ensures in
    let count = c.len.ensures in
    let same = c.deref.ensures.len in
    record {
      callers = omega (arith, called, count, same);
      updates = omega (arith, asked, here);
    }

pub overflow_mul-callers : goal.overflow_mul-callers
overflow_mul-callers c =
    let all = take_all c.loop-round.round-index c.args.rounds.now (let end = c.loop-round-test.false in omega (arith, end)) in
    let called = c.loop-round.invariant.callers ∙ ap callers_asked all in
    let few = callers_few c.args.rounds.now c.requires.few.0 c.requires.few.1 in
    omega (arith, called, few)

pub overflow_add-callers-2 : goal.overflow_add-callers-2
overflow_add-callers-2 c =
    let all = take_all c.loop-round.round-index c.args.rounds.now (let end = c.loop-round-test.false in omega (arith, end)) in
    let called = c.loop-round.invariant.callers ∙ ap callers_asked all in
    let asked = c.loop-round.invariant.updates ∙ ap updates_asked all in
    let callers = callers_few c.args.rounds.now c.requires.few.0 c.requires.few.1 in
    let updates = updates_few c.args.rounds.now c.requires.few.0 c.requires.few.1 in
    let members = c.min-members.ensures in
    omega (arith, called, asked, callers, updates, members)

pub overflow_add-callers-3 : goal.overflow_add-callers-3
overflow_add-callers-3 c =
    let all = take_all c.loop-round.round-index c.args.rounds.now (let end = c.loop-round-test.false in omega (arith, end)) in
    let called = c.loop-round.invariant.callers ∙ ap callers_asked all in
    let asked = c.loop-round.invariant.updates ∙ ap updates_asked all in
    let callers = callers_few c.args.rounds.now c.requires.few.0 c.requires.few.1 in
    let updates = updates_few c.args.rounds.now c.requires.few.0 c.requires.few.1 in
    let members = c.min-members.ensures in
    omega (arith, called, asked, callers, updates, members)

pub returns-clause-bounds : goal.returns-clause-bounds
returns-clause-bounds c =
    let all = take_all c.loop-round.round-index c.args.rounds.now (let end = c.loop-round-test.false in omega (arith, end)) in
    let called = c.loop-round.invariant.callers ∙ ap callers_asked all in
    let is = c.min.ensures in
    let least = c.requires.nodes.0 in
    (omega (arith, called, is, least), omega (arith, is))

pub returns-clause-enough : goal.returns-clause-enough
returns-clause-enough c =
    let all = take_all c.loop-round.round-index c.args.rounds.now (let end = c.loop-round-test.false in omega (arith, end)) in
    enough_or_most c.args.most (callers_asked c.args.rounds.now) (updates_asked c.args.rounds.now) c.loop-round.callers c.loop-round.updates c.args.images c.min.result (c.loop-round.invariant.callers ∙ ap callers_asked all) (c.loop-round.invariant.updates ∙ ap updates_asked all) (c.min.ensures ∙ ap (λ n. min c.args.most (4 * c.loop-round.callers + n / 2 + 2)) c.min-members.ensures)

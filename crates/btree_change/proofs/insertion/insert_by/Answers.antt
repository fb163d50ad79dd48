use Rattle.std.proofs.Common.{◌+◌, ◌*◌, ◌≤◌, arith, ◌∙◌}
use Rattle.std.proofs.lemmas.Result.{err_from_is_err_and}
use Rattle.word_rule.specs.Places.{CALL_CREDIT}
use Rattle.tree_descent.specs.BySight.{HoldsFor}
use Rattle.tree_descent.proofs.Loading.{found_after}
use Rattle.tree_descent.proofs.Spending.{spends_all, spends_same}
use Rattle.tree_descent.proofs.NodeSteps.{steps_then, still_idle}
use Rattle.btree_change.specs.Roots.{EndsPart}
use Rattle.btree_change.proofs.AtRoot.{answered_so, ends_part, given_up_so, root_busy}
use Rattle.btree_change.proofs.BySights.{seen_for, seen_stand}
use Rattle.btree_change.proofs.Spending.{may_still}
use Rattle.btree_change.proofs.insertion.insert_by.Goals.{After-below, In-Some}
use Rattle.tree_descent.specs.declared.by_sight.Request.TheVariants as request
use Rattle.node_split.specs.declared.split.Room.TheVariants as room
use Rattle.btree_change.proofs.insertion.insert_by.Goals as goal

-- the node that was locked by sight is held for the span
held : (g : _) (c : In-Some g) → HoldsFor c.args.words.now.terms (request.Insertion c.args.member.span.first c.args.member.span.last) c.in-Some.at c.hold_by_sight.new.me.log.holdings
held g c = seen_for c.args.words.now.terms c.args.member c.first.result c.last.result c.in-Some.at c.hold_by_sight.new.me.log.holdings c.first.ensures.value c.last.ensures.value c.in-Some.ensures.holds

pub below-requires-clause-stands : goal.below-requires-clause-stands
below-requires-clause-stands g c = seen_stand c.args.words.now.terms c.args.member c.in-Some.at c.hold_by_sight.new.me.log (held g (goal.at.below-requires-clause-stands g c).In-Some) (c.hold_by_sight.ensures.same.calls.caller.loader ∙ c.requires.idle.loader)

pub at_root-requires-clause-idle : goal.at_root-requires-clause-idle
at_root-requires-clause-idle g c = still_idle c.args.me.now c.hold_by_sight.new.me c.hold_by_sight.ensures.same c.in_default.ensures.nothing c.requires.idle

pub returns-in_err-root-clause-busy : goal.returns-in_err-root-clause-busy
returns-in_err-root-clause-busy g c =
    let p = err_from_is_err_and c.from_residual.result c.from_residual.ensures.1 in
    let k = c.args.me.now in let k1 = c.hold_by_sight.new.me in let k2 = c.at_root.new.me in let same = c.hold_by_sight.ensures.same in let err = c.in_err-root.ensures in let why = c.in_err-root.field-0.0 in
    rw (p.1, p.2) (root_busy why k k2 (steps_then k k1 k2 same err.same) (found_after why k k1 k2 same.loads err.cause) err.busy.0, err.busy.1)

pub below-requires-clause-call : goal.below-requires-clause-call
below-requires-clause-call g c =
    let low = (held g (goal.at.below-requires-clause-call g c).In-Some).low in
    may_still c.args.words.now c.args.member 0 CALL_CREDIT (2 * c.in-Some.at.content.level + 0 + 13) c.args.me.now c.hold_by_sight.new.me (omega (arith, low)) (spends_same c.args.me.now c.hold_by_sight.new.me c.hold_by_sight.ensures.same) (record { table = c.requires.table; terms = c.hold_by_sight.ensures.terms; loader = c.requires.idle.loader; payload = c.requires.payload; begun = c.requires.begun; spare = c.requires.surplus })

pub at_held_root-requires-clause-call : goal.at_held_root-requires-clause-call
at_held_root-requires-clause-call g c =
    let k = c.args.me.now in let k1 = c.hold_by_sight.new.me in let k2 = c.at_root.new.me in
    may_still c.args.words.now c.args.member 0 CALL_CREDIT CALL_CREDIT k k2 (omega arith) (spends_same k k2 (steps_then k k1 k2 c.hold_by_sight.ensures.same c.in_ok-root.ensures.same)) (record { table = c.requires.table; terms = c.hold_by_sight.ensures.terms; loader = c.requires.idle.loader; payload = c.requires.payload; begun = c.requires.begun; spare = c.requires.surplus })

ends : (g : _) (c : After-below g) → c.in-Some.at.content.level ≤ 12 → EndsPart c.args.words.now.terms c.args.member CALL_CREDIT room.Splitting g.L.Locking.gives_up c.hold_by_sight.new.me c.below.new.me c.below.result
ends g c low = let k = c.hold_by_sight.new.me in ends_part c.args.words.now.terms c.args.member 0 (2 * c.in-Some.at.content.level + 0 + 13) CALL_CREDIT room.Splitting room.Splitting g.L.Locking.gives_up k k c.below.new.me c.below.result (omega (arith, low)) (spends_all 0 k) (λ h. h) c.below.ensures

pub returns-in-Some-clause-answer : goal.returns-in-Some-clause-answer
returns-in-Some-clause-answer g c =
    let at = goal.at.returns-in-Some-clause-answer g c in
    answered_so c.args.words.now.terms c.args.member g.L.Locking.gives_up c.args.me.now c.hold_by_sight.new.me c.below.new.me c.below.result c.hold_by_sight.ensures.same (ends g at.After-below (held g at.In-Some).low)

pub returns-in-Some-clause-busy : goal.returns-in-Some-clause-busy
returns-in-Some-clause-busy g c =
    let at = goal.at.returns-in-Some-clause-busy g c in
    given_up_so c.args.words.now.terms c.args.member g.L.Locking.gives_up c.args.me.now c.hold_by_sight.new.me c.below.new.me c.below.result c.hold_by_sight.ensures.same (ends g at.After-below (held g at.In-Some).low)

pub returns-clause-answer : goal.returns-clause-answer
returns-clause-answer g c =
    let k = c.args.me.now in let k1 = c.at_root.new.me in
    answered_so c.args.words.now.terms c.args.member g.L.Locking.gives_up k k1 c.at_held_root.new.me c.at_held_root.result (steps_then k c.hold_by_sight.new.me k1 c.hold_by_sight.ensures.same c.in_ok-root.ensures.same) c.at_held_root.ensures

pub returns-clause-busy : goal.returns-clause-busy
returns-clause-busy g c =
    let k = c.args.me.now in let k1 = c.at_root.new.me in
    given_up_so c.args.words.now.terms c.args.member g.L.Locking.gives_up k k1 c.at_held_root.new.me c.at_held_root.result (steps_then k c.hold_by_sight.new.me k1 c.hold_by_sight.ensures.same c.in_ok-root.ensures.same) c.at_held_root.ensures

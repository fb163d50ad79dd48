use Rattle.std.proofs.Common.{◌+◌, ◌*◌, arith, subst, sym, ap, ◌∙◌, length, Ok}
use Rattle.word_rule.specs.TreeRefusals.{HadNoRoom}
use Rattle.word_rule.specs.Places.{CALL_CREDIT}
use Rattle.tree_descent.specs.Loads.{FoundNoRoom}
use Rattle.tree_descent.proofs.Loading.{found_still}
use Rattle.tree_descent.proofs.Spending.{spends_all, spends_same, surplus_steps}
use Rattle.leaf_change.proofs.Releasing.{lowest_may}
use Rattle.node_split.specs.Splits.{HoldsFullAlone, IsRoomForRoot}
use Rattle.node_split.proofs.NoRoom.{no_room_after, no_room_still}
use Rattle.btree_change.proofs.AtRoot.{ends_part, full_alone, full_root, kept_steps, root_gone, root_filled, root_kept, root_lowest, root_stand, root_stands}
use Rattle.btree_change.proofs.NoRoom.{no_room_now}
use Rattle.btree_change.proofs.Rooted.{root_low}
use Rattle.btree_change.proofs.Spending.{may_still, own_same}
use Rattle.node_split.specs.declared.split.Room.TheVariants as room
use Rattle.btree_change.proofs.root.at_held_root.Goals as goal

pub is_full-requires-clause-filled : goal.is_full-requires-clause-filled
is_full-requires-clause-filled g c = root_filled c.args.words.now.terms c.args.root c.args.me.now.log.holdings c.requires.root

pub below-requires-clause-stands : goal.below-requires-clause-stands
below-requires-clause-stands g c =
    let t = c.args.words.now.terms in let m = c.args.member.now in let k = c.args.me.now in
    let root = c.args.root in let h = c.requires.root in
    root_stand t root room.Splitting m k.log h c.requires.span c.requires.call.loader c.if-not-is_full.ensures

pub below-requires-clause-call : goal.below-requires-clause-call
below-requires-clause-call g c =
    let k = c.args.me.now in let low = root_low c.args.words.now.terms c.args.root k.log.holdings c.requires.root in
    may_still c.args.words.now c.args.member.now 0 CALL_CREDIT (2 * c.args.root.content.level + 0 + 13) k k (omega (arith, low)) (spends_all 0 k) c.requires.call

pub returns-then-not-is_full : goal.returns-then-not-is_full
returns-then-not-is_full g c =
    let k = c.args.me.now in let low = root_low c.args.words.now.terms c.args.root k.log.holdings c.requires.root in
    ends_part c.args.words.now.terms c.args.member.now 0 (2 * c.args.root.content.level + 0 + 13) CALL_CREDIT room.Splitting room.Splitting g.L.Locking.gives_up k k c.below.new.me c.below.result (omega (arith, low)) (spends_all 0 k) (λ h. h) c.below.ensures

pub room_for_root-requires-clause-held : goal.room_for_root-requires-clause-held
room_for_root-requires-clause-held g c =
    let t = c.args.words.now.terms in let m = c.args.member.now in let k = c.args.me.now in
    subst (λ p. HoldsFullAlone t c.args.root p k.log.holdings) (sym c.first.ensures.value) (full_alone t c.args.root m k.log.holdings c.requires.root c.requires.span c.if-not-is_full.ensures)

pub lifted-requires-clause-held : goal.lifted-requires-clause-held
lifted-requires-clause-held g c =
    let t = c.args.words.now.terms in let m = c.args.member.now in let k = c.args.me.now in
    let root = c.args.root in let h = c.requires.root in let k1 = c.room_for_root.new.me in
    let took = subst (λ o. IsRoomForRoot g.L.Locking.gives_up root c.first.result k k1 (Ok o)) c.in-Ok-Some.field-0-is c.in-Ok-Some.ensures in
    full_root t root m c.in-Ok-Some.two k k1 c.requires.call.terms h c.requires.span c.if-not-is_full.ensures took.0 took.1

pub lifted-requires-clause-high : goal.lifted-requires-clause-high
lifted-requires-clause-high g c =
    let t = c.args.words.now.terms in let m = c.args.member.now in let k = c.args.me.now in
    let root = c.args.root in let h = c.requires.root in let k1 = c.room_for_root.new.me in
    let took = subst (λ o. IsRoomForRoot g.L.Locking.gives_up root c.first.result k k1 (Ok o)) c.in-Ok-Some.field-0-is c.in-Ok-Some.ensures in
    h.high

pub below-requires-in-Ok-None-clause-stands : goal.below-requires-in-Ok-None-clause-stands
below-requires-in-Ok-None-clause-stands g c =
    let t = c.args.words.now.terms in let m = c.args.member.now in let k = c.args.me.now in
    let root = c.args.root in let h = c.requires.root in let k1 = c.room_for_root.new.me in
    let none = subst (λ o. IsRoomForRoot g.L.Locking.gives_up root c.first.result k k1 (Ok o)) c.in-Ok-None.field-0-is c.in-Ok-None.ensures in let spent = kept_steps k k1 none.0 in
    root_stand t root room.NoneFree m k1.log (root_kept t root k.log.holdings k1.log.holdings none.0.held none.2 h) c.requires.span (spent.calls.caller.loader ∙ c.requires.call.loader) (subst (λ xs. HadNoRoom m.span.first (length xs) k1.log.trace.loads) (sym (own_same 1 k k1 spent)) (no_room_now m.span.first k k1 (subst (λ p. FoundNoRoom p k k1) c.first.ensures.value none.1)))

pub let_go_of-requires-clause-inside : goal.let_go_of-requires-clause-inside
let_go_of-requires-clause-inside g c =
    let t = c.args.words.now.terms in let m = c.args.member.now in let k = c.args.me.now in
    let root = c.args.root in let h = c.requires.root in let k1 = c.room_for_root.new.me in
    (root_stands t root k.log.holdings h).within

pub let_go_of-requires-clause-table : goal.let_go_of-requires-clause-table
let_go_of-requires-clause-table g c =
    let t = c.args.words.now.terms in let m = c.args.member.now in let k = c.args.me.now in
    let root = c.args.root in let h = c.requires.root in let k1 = c.room_for_root.new.me in
    (kept_steps k k1 c.in-Err.ensures.0).calls.caller.table ∙ c.requires.call.table

pub let_go_of-requires-clause-may : goal.let_go_of-requires-clause-may
let_go_of-requires-clause-may g c =
    let t = c.args.words.now.terms in let m = c.args.member.now in let k = c.args.me.now in
    let root = c.args.root in let h = c.requires.root in let k1 = c.room_for_root.new.me in
    lowest_may _ _ _ (root_lowest t root k k1 h c.in-Err.ensures.0)

pub let_go_of-requires-clause-surplus : goal.let_go_of-requires-clause-surplus
let_go_of-requires-clause-surplus g c =
    let t = c.args.words.now.terms in let m = c.args.member.now in let k = c.args.me.now in
    let root = c.args.root in let h = c.requires.root in let k1 = c.room_for_root.new.me in
    let e = c.requires.call.spare in surplus_steps 1 k k1 1 (kept_steps k k1 c.in-Err.ensures.0) (omega (arith, e))

pub lifted-requires-clause-call : goal.lifted-requires-clause-call
lifted-requires-clause-call g c =
    let k = c.args.me.now in let k1 = c.room_for_root.new.me in
    let took = subst (λ o. IsRoomForRoot g.L.Locking.gives_up c.args.root c.first.result k k1 (Ok o)) c.in-Ok-Some.field-0-is c.in-Ok-Some.ensures in
    may_still c.args.words.now c.args.member.now 0 CALL_CREDIT 39 k k1 (omega arith) (spends_same k k1 took.1.same) c.requires.call

pub below-requires-in-Ok-None-clause-call : goal.below-requires-in-Ok-None-clause-call
below-requires-in-Ok-None-clause-call g c =
    let k = c.args.me.now in let root = c.args.root in let k1 = c.room_for_root.new.me in
    let none = subst (λ o. IsRoomForRoot g.L.Locking.gives_up root c.first.result k k1 (Ok o)) c.in-Ok-None.field-0-is c.in-Ok-None.ensures in
    let low = root_low c.args.words.now.terms root k.log.holdings c.requires.root in
    may_still c.args.words.now c.args.member.now 1 CALL_CREDIT (2 * root.content.level + 0 + 13) k k1 (omega (arith, low)) (kept_steps k k1 none.0) c.requires.call

pub returns-in-Ok-Some : goal.returns-in-Ok-Some
returns-in-Ok-Some g c =
    let m = c.args.member.now in let first = m.span.first in let k = c.args.me.now in let k1 = c.room_for_root.new.me in let n = c.lifted.new.me in
    let took = subst (λ o. IsRoomForRoot g.L.Locking.gives_up c.args.root c.first.result k k1 (Ok o)) c.in-Ok-Some.field-0-is c.in-Ok-Some.ensures in
    ends_part c.args.words.now.terms m 0 39 CALL_CREDIT room.Splitting room.Splitting g.L.Locking.gives_up k k1 n c.lifted.result (omega arith) (spends_same k k1 took.1.same) (no_room_after first k k1 n (ap (λ r. r.own) took.1.same.calls.receipts) took.1.same.loads) c.lifted.ensures

pub returns-in-Ok-None : goal.returns-in-Ok-None
returns-in-Ok-None g c =
    let m = c.args.member.now in let first = m.span.first in let root = c.args.root in let k = c.args.me.now in let k1 = c.room_for_root.new.me in let n = c.below-in-Ok-None.new.me in
    let none = subst (λ o. IsRoomForRoot g.L.Locking.gives_up root c.first.result k k1 (Ok o)) c.in-Ok-None.field-0-is c.in-Ok-None.ensures in
    let low = root_low c.args.words.now.terms root k.log.holdings c.requires.root in
    ends_part c.args.words.now.terms m 1 (2 * root.content.level + 0 + 13) CALL_CREDIT room.Splitting room.NoneFree g.L.Locking.gives_up k k1 n c.below-in-Ok-None.result (omega (arith, low)) (kept_steps k k1 none.0) (no_room_still first k k1 n (subst (λ p. FoundNoRoom p k k1) c.first.ensures.value none.1)) c.below-in-Ok-None.ensures

pub returns-in-Err : goal.returns-in-Err
returns-in-Err g c =
    let k = c.args.me.now in let k1 = c.room_for_root.new.me in let n = c.let_go_of.new.me in let why = c.in-Err.busy in
    (root_gone c.args.words.now.terms c.args.root why k k1 n c.requires.root c.in-Err.ensures.0 c.in-Err.ensures.3 c.let_go_of.ensures, c.in-Err.ensures.1, found_still why k k1 n c.in-Err.ensures.2 c.let_go_of.ensures.steps.loads)

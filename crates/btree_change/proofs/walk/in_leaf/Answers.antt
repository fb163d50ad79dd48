use Rattle.std.proofs.Common.{◌+◌, ◌∷◌, [], arith, ap, length, subst, sym, ◌∙◌}
use Rattle.tree_shape.specs.NodeData.{entries_of, place_for}
use Rattle.word_rule.specs.declared.log.Receipts.{Receipts}
use Rattle.node_store.proofs.Outlined.{loads_hold}
use Rattle.tree_descent.proofs.Outlining.{loads_then, steps_of_loads, stands_spelled}
use Rattle.tree_descent.proofs.Spending.{spends_same, surplus_steps}
use Rattle.tree_descent.proofs.Lowering.{settled_live}
use Rattle.tree_descent.proofs.Putting.{leaf_at_zero}
use Rattle.btree_change.specs.declared.path.KeptNode.{KeptNode}
use Rattle.btree_change.specs.Kept.{HoldsPath}
use Rattle.btree_change.specs.Stands.{kept_above, releases_from}
use Rattle.btree_change.proofs.AtRoot.{ends_after, ends_part}
use Rattle.btree_change.proofs.Answering.{refused_ends, refused_path, refused_surplus}
use Rattle.btree_change.proofs.NoRoom.{cause_after, if_full}
use Rattle.btree_change.proofs.Preceding.{stands_still}
use Rattle.btree_change.proofs.Spending.{may_still}
use Rattle.btree_change.proofs.walk.in_leaf.Goals as goal

pub refused-requires-clause-stands : goal.refused-requires-clause-stands
refused-requires-clause-stands g c =
    let t = c.args.words.now.terms in let m = c.args.member.now in let stand = c.args.stand in let at = c.args.stand.at in let k = c.args.me.now in let k1 = c.begun_in-begun.new.me in
    let loads = c.begun_in-begun.ensures.loads in let kept = loads_hold k k1 loads in
    let steps = steps_of_loads k k1 loads in let s = stands_still t m stand k k1 kept steps c.requires.stands in
    s.at

pub let_go_of_all-requires-clause-table : goal.let_go_of_all-requires-clause-table
let_go_of_all-requires-clause-table g c =
    let steps = steps_of_loads c.args.me.now c.begun_in-begun.new.me c.begun_in-begun.ensures.loads in c.in-Some.ensures.overlaps.call.caller.table ∙ (steps.calls.caller.table ∙ c.requires.call.table)

pub let_go_of_all-requires-clause-path : goal.let_go_of_all-requires-clause-path
let_go_of_all-requires-clause-path g c =
    let t = c.args.words.now.terms in let m = c.args.member.now in let stand = c.args.stand in let k = c.args.me.now in let k1 = c.begun_in-begun.new.me in
    let loads = c.begun_in-begun.ensures.loads in let kept = loads_hold k k1 loads in
    let steps = steps_of_loads k k1 loads in let s = stands_still t m stand k k1 kept steps c.requires.stands in
    subst (λ (n : KeptNode). HoldsPath t (n ∷ kept_above stand.beyond) [] c.refused.new.me.log.holdings) (sym c.kept.ensures) (refused_path t m stand k1 c.refused.new.me s c.in-Some.answer c.in-Some.ensures.overlaps)

pub let_go_of_all-requires-clause-surplus : goal.let_go_of_all-requires-clause-surplus
let_go_of_all-requires-clause-surplus g c =
    let t = c.args.words.now.terms in let m = c.args.member.now in let stand = c.args.stand in let k = c.args.me.now in let k1 = c.begun_in-begun.new.me in
    let loads = c.begun_in-begun.ensures.loads in let kept = loads_hold k k1 loads in
    let steps = steps_of_loads k k1 loads in let s = stands_still t m stand k k1 kept steps c.requires.stands in
    let enough = c.requires.call.spare in let left = refused_surplus t m stand k1 c.refused.new.me s c.in-Some.answer c.in-Some.ensures.overlaps (length (kept_above stand.beyond) + 1) (surplus_steps 0 k k1 (length (kept_above stand.beyond) + 1) (spends_same k k1 steps) (omega (arith, enough))) in omega (arith, left)

pub in_free_leaf-requires-clause-stands : goal.in_free_leaf-requires-clause-stands
in_free_leaf-requires-clause-stands g c =
    let t = c.args.words.now.terms in let m = c.args.member.now in let stand = c.args.stand in let at = c.args.stand.at in let k = c.args.me.now in let k1 = c.refused.new.me in
    let loads = loads_then k c.begun_in-begun.new.me k1 c.begun_in-begun.ensures.loads c.in-None.ensures.free.1 in let kept = loads_hold k k1 loads in
    let steps = steps_of_loads k k1 loads in let s = stands_still t m stand k k1 kept steps c.requires.stands in
    s

pub in_free_leaf-requires-clause-free : goal.in_free_leaf-requires-clause-free
in_free_leaf-requires-clause-free g c =
    let t = c.args.words.now.terms in let m = c.args.member.now in let stand = c.args.stand in let at = c.args.stand.at in let k = c.args.me.now in let k1 = c.refused.new.me in
    let loads = loads_then k c.begun_in-begun.new.me k1 c.begun_in-begun.ensures.loads c.in-None.ensures.free.1 in let kept = loads_hold k k1 loads in
    let steps = steps_of_loads k k1 loads in let s = stands_still t m stand k k1 kept steps c.requires.stands in
    c.in-None.ensures.free.0

pub begun_in-begun-requires-clause-inside : goal.begun_in-begun-requires-clause-inside
begun_in-begun-requires-clause-inside g c = c.requires.stands.at.within

pub begun_in-begun-requires-clause-spells : goal.begun_in-begun-requires-clause-spells
begun_in-begun-requires-clause-spells g c = stands_spelled c.args.words.now.terms c.args.stand.at c.args.me.now.log c.requires.stands.at

pub begun_in-begun-requires-clause-leaf : goal.begun_in-begun-requires-clause-leaf
begun_in-begun-requires-clause-leaf g c =
    let at = c.args.stand.at in let s = c.requires.stands.at in
    leaf_at_zero at.content (settled_live c.args.words.now.terms at.node at.content at.changed s.lock s.here).1.1.ordered c.requires.level

pub refused-requires-clause-begun : goal.refused-requires-clause-begun
refused-requires-clause-begun g c = c.begun_in-begun.ensures.begun ∙ ap (λ pc. place_for pc (entries_of c.args.stand.at.content)) c.first-first.ensures.value

pub in_free_leaf-requires-clause-call : goal.in_free_leaf-requires-clause-call
in_free_leaf-requires-clause-call g c =
    let stand = c.args.stand in let k = c.args.me.now in let k1 = c.refused.new.me in
    let loads = loads_then k c.begun_in-begun.new.me k1 c.begun_in-begun.ensures.loads c.in-None.ensures.free.1 in
    may_still c.args.words.now c.args.member.now 0 (releases_from stand) (releases_from stand) k k1 (omega arith) (spends_same k k1 (steps_of_loads k k1 loads)) c.requires.call

pub returns-in-Some : goal.returns-in-Some
returns-in-Some g c =
    let t = c.args.words.now.terms in let m = c.args.member.now in let stand = c.args.stand in let k = c.args.me.now in let k1 = c.begun_in-begun.new.me in
    let loads = c.begun_in-begun.ensures.loads in let kept = loads_hold k k1 loads in
    let steps = steps_of_loads k k1 loads in let s = stands_still t m stand k k1 kept steps c.requires.stands in
    (ends_after t m c.in-Some.answer 0 (releases_from stand) (releases_from stand) k k1 c.let_go_of_all.new.me (omega arith) (spends_same k k1 steps) (refused_ends t m stand k1 c.refused.new.me s c.in-Some.answer c.in-Some.ensures.overlaps c.let_go_of_all.new.me c.let_go_of_all.ensures), if_full c.in-Some.answer (λ never. absurd never) c.in-Some.ensures.never_full)

pub returns-in-None : goal.returns-in-None
returns-in-None g c =
    let m = c.args.member.now in let stand = c.args.stand in let k = c.args.me.now in let k1 = c.refused.new.me in let n = c.in_free_leaf.new.me in
    let steps = steps_of_loads k k1 (loads_then k c.begun_in-begun.new.me k1 c.begun_in-begun.ensures.loads c.in-None.ensures.free.1) in
    ends_part c.args.words.now.terms m 0 (releases_from stand) (releases_from stand) stand.room stand.room g.L.Locking.gives_up k k1 n c.in_free_leaf.result (omega arith) (spends_same k k1 steps)
    (λ h. cause_after stand.room m.span.first k k1 n (ap (λ (r : Receipts). r.own) steps.calls.receipts) steps.loads h) c.in_free_leaf.ensures

use Rattle.std.proofs.Common.{◌≡◌, ◌∙◌, length, ap, subst, arith}
use Rattle.tree_shape.specs.NodeData.{pairs_of, slot_for}
use Rattle.node_store.specs.Outlines.{IsCountOf}
use Rattle.node_store.proofs.Outlined.{inner_of, known}
use Rattle.tree_descent.proofs.Outlining.{slot_pair}
use Rattle.btree_change.proofs.stand.reach_of.Goals as goal

pub returns-then-last-high_of-clause-reach : goal.returns-then-last-high_of-clause-reach
returns-then-last-high_of-clause-reach c =
    let p = slot_pair c.args.step.now.parent.content c.args.member.now.span.first c.requires.inner c.requires.ordered c.requires.here in
    let high = c.requires.high p.0 p.1 in
    (p.0, (p.1, omega (arith, high, c.high_of.ensures.high, c.last.ensures.value, c.if-last-high_of.true)))

pub overflow_add-slot : goal.overflow_add-slot
overflow_add-slot c =
    let parent = c.args.step.now.parent in
    let x = known parent.node parent.content c.args.me.now.log c.requires.parent in
    let few = (inner_of x.lock.words parent.content x.spells c.requires.inner).few in
    omega (arith, few, c.slot_of-slot.ensures.found)

pub returns-then-slot-count-clause-reach : goal.returns-then-slot-count-clause-reach
returns-then-slot-count-clause-reach c =
    let s = c.args.step.now.parent.content in let p = slot_pair s c.args.member.now.span.first c.requires.inner c.requires.ordered c.requires.here in
    let high = c.requires.high p.0 p.1 in
    let count : c.count.result ≡ length (pairs_of s) = subst (IsCountOf c.count.result) c.requires.inner c.count.ensures in
    (p.0, (p.1, omega (arith, high, c.high_of.ensures.high, c.last.ensures.value, c.if-last-high_of.false), c.slot_of-slot.ensures.first ∙ ap (λ pc. slot_for pc (pairs_of s)) c.first.ensures.value, omega (arith, count, c.if-slot-count.true)))

pub returns-else-slot-count-clause-reach : goal.returns-else-slot-count-clause-reach
returns-else-slot-count-clause-reach c =
    let s = c.args.step.now.parent.content in let p = slot_pair s c.args.member.now.span.first c.requires.inner c.requires.ordered c.requires.here in
    let high = c.requires.high p.0 p.1 in
    let slot : c.slot_of-slot.result ≡ slot_for c.args.member.now.span.first (pairs_of s) = c.slot_of-slot.ensures.first ∙ ap (λ pc. slot_for pc (pairs_of s)) c.first.ensures.value in
    let count : c.count.result ≡ length (pairs_of s) = subst (IsCountOf c.count.result) c.requires.inner c.count.ensures in
    let inside = c.slot_of-slot.ensures.found in
    (p.0, (p.1, omega (arith, high, c.high_of.ensures.high, c.last.ensures.value, c.if-last-high_of.false), omega (arith, slot, count, inside, c.if-slot-count.false)))

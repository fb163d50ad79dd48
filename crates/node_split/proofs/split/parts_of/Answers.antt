use Rattle.std.proofs.Common.{◌≡◌, ◌<◌, ◌≤◌, ◌∙◌, sym, ap, subst, length}
use Rattle.tree_shape.specs.Changes.{at_slot, divide, first_half, last_half}
use Rattle.tree_laws.specs.Lawful.{IsOrdered}
use Rattle.tree_shape.specs.NodeData.{NodeData, InOrder, IsInner, Pairs, pairs_of, slot_for}
use Rattle.tree_laws.specs.Steps.{IsFull, middle, middle_fence}
use Rattle.tree_descent.proofs.Outlining.{spells_later}
use Rattle.tree_descent.proofs.NodeSteps.{steps_then}
use Rattle.node_split.proofs.split.parts_of.Goals as goal

pub content_of-parent-requires-clause-table : goal.content_of-parent-requires-clause-table
content_of-parent-requires-clause-table c = c.content_of-child.ensures.steps.calls.caller.table ∙ c.requires.table

pub content_of-parent-requires-clause-spells : goal.content_of-parent-requires-clause-spells
content_of-parent-requires-clause-spells c =
    let parent = c.args.full.now.parent in
    spells_later parent.node parent.content c.args.me.now.log c.content_of-child.new.me.log c.content_of-child.ensures.holdings c.requires.parent

pub halves-left-requires-clause-ordered : goal.halves-left-requires-clause-ordered
halves-left-requires-clause-ordered c = subst IsOrdered (sym c.content_of-child.ensures.content) c.requires.ordered

pub halves-left-requires-clause-full : goal.halves-left-requires-clause-full
halves-left-requires-clause-full c = subst (λ (s : NodeData). IsFull s.body) (sym c.content_of-child.ensures.content) c.requires.is_full

pub inner_slot-slot-requires-clause-inner : goal.inner_slot-slot-requires-clause-inner
inner_slot-slot-requires-clause-inner c = subst IsInner (sym c.content_of-parent.ensures.content) c.requires.inner

pub inner_slot-slot-requires-clause-ordered : goal.inner_slot-slot-requires-clause-ordered
inner_slot-slot-requires-clause-ordered c = subst InOrder (sym c.content_of-parent.ensures.content) c.requires.in_order

pub inner_slot-slot-requires-clause-low : goal.inner_slot-slot-requires-clause-low
inner_slot-slot-requires-clause-low c = subst (λ (s : NodeData). s.low ≤ c.args.pc) (sym c.content_of-parent.ensures.content) c.requires.here.0

pub inner_slot-slot-requires-clause-high : goal.inner_slot-slot-requires-clause-high
inner_slot-slot-requires-clause-high c = subst (λ (s : NodeData). c.args.pc ≤ s.high) (sym c.content_of-parent.ensures.content) c.requires.here.1

pub put_pair-above-requires-clause-inner : goal.put_pair-above-requires-clause-inner
put_pair-above-requires-clause-inner c = subst IsInner (sym c.content_of-parent.ensures.content) c.requires.inner

pub put_pair-above-requires-clause-room : goal.put_pair-above-requires-clause-room
put_pair-above-requires-clause-room c = subst (λ (s : NodeData). length (pairs_of s) < 15) (sym c.content_of-parent.ensures.content) c.requires.room

pub returns-clause-parts : goal.returns-clause-parts
returns-clause-parts c =
    let full = c.args.full.now in let p = c.content_of-parent.result in let child = c.content_of-child.ensures.content in
    let left = c.halves-left.ensures.left ∙ ap (λ (s : NodeData). first_half (middle s.body) s) child in
    let right = c.halves-left.ensures.right ∙ ap (λ (s : NodeData). last_half (middle s.body) s) child in
    let fence : c.left.inside.high ≡ middle_fence full.child.content = ap (λ (s : NodeData). s.high) (c.left.view_is ∙ left) in
    let above = c.put_pair-above.ensures ∙ (ap (λ slot. record p { body = Pairs (at_slot (divide c.left.inside.high full.fresh) slot (pairs_of p)) }) c.inner_slot-slot.ensures.first
    ∙ (ap (λ high. record p { body = Pairs (at_slot (divide high full.fresh) (slot_for c.args.pc (pairs_of p)) (pairs_of p)) }) fence
    ∙ ap (λ (s : NodeData). record s { body = Pairs (at_slot (divide (middle_fence full.child.content) full.fresh) (slot_for c.args.pc (pairs_of s)) (pairs_of s)) }) c.content_of-parent.ensures.content)) in
    (λ i. record { left = left i; right = right i; above = above i })

pub returns-clause-same : goal.returns-clause-same
returns-clause-same c = steps_then c.args.me.now c.content_of-child.new.me c.content_of-parent.new.me c.content_of-child.ensures.steps c.content_of-parent.ensures.steps

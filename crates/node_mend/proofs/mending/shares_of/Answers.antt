use Rattle.std.proofs.Common.{◌≡◌, ◌<◌, length, ◌∙◌, ap, sym, subst, arith}
use Rattle.tree_shape.specs.Changes.{Overfill, at_slot, first_half, joined, last_half, pair, separate_at, share_of}
use Rattle.tree_shape.specs.NodeData.{NodeData, AreNeighbours, InOrder, IsInner, Pairs, pairs_of}
use Rattle.tree_descent.proofs.Lowering.{settled_inner, settled_order}
use Rattle.node_mend.specs.Shares.{shares_for}
use Rattle.node_mend.proofs.Joining.{inside_of}
use Rattle.node_mend.proofs.mending.shares_of.Goals as goal

pub even_pair-left-requires-clause-neighbours : goal.even_pair-left-requires-clause-neighbours
even_pair-left-requires-clause-neighbours c = subst (λ (z : NodeData). AreNeighbours z c.contents_of-first.result.1) (sym c.contents_of-first.ensures.left) (subst (λ (z : NodeData). AreNeighbours c.args.x.now.left.content z) (sym c.contents_of-first.ensures.right) c.requires.held.neighbours)

pub even_pair-left-requires-clause-overfill : goal.even_pair-left-requires-clause-overfill
even_pair-left-requires-clause-overfill c = subst (λ (z : NodeData). Overfill z c.contents_of-first.result.1) (sym c.contents_of-first.ensures.left) (subst (λ (z : NodeData). Overfill c.args.x.now.left.content z) (sym c.contents_of-first.ensures.right) c.requires.overfill)

pub even_pair-left-requires-clause-left_ordered : goal.even_pair-left-requires-clause-left_ordered
even_pair-left-requires-clause-left_ordered c = subst InOrder (sym c.contents_of-first.ensures.left) (settled_order c.args.words.now.terms c.args.x.now.left.node c.args.x.now.left.content c.args.x.now.left.changed c.requires.held.low c.requires.held.left)

pub even_pair-left-requires-clause-right_ordered : goal.even_pair-left-requires-clause-right_ordered
even_pair-left-requires-clause-right_ordered c = subst InOrder (sym c.contents_of-first.ensures.right) (settled_order c.args.words.now.terms c.args.x.now.right.node c.args.x.now.right.content c.args.x.now.right.changed c.requires.held.high c.requires.held.right)

pub set_separator-above-requires-clause-inner : goal.set_separator-above-requires-clause-inner
set_separator-above-requires-clause-inner c = subst IsInner (sym c.contents_of-first.ensures.above) (settled_inner c.args.words.now.terms c.args.x.now.above.node c.args.x.now.above.content c.args.x.now.above.changed c.requires.held.upper c.requires.held.parent (let level = c.requires.held.level in omega (arith, level)))

pub set_separator-above-requires-clause-slot : goal.set_separator-above-requires-clause-slot
set_separator-above-requires-clause-slot c = subst (λ (z : NodeData). c.args.x.now.slot < length (pairs_of z)) (sym c.contents_of-first.ensures.above) (inside_of (pairs_of c.args.x.now.above.content) c.args.x.now.slot (pair c.args.x.now.left.node c.args.x.now.left.content.high) c.requires.held.at)

pub returns-clause-shares : goal.returns-clause-shares
returns-clause-shares c =
    let left : c.even_pair-left.result.0 ≡ (shares_for c.args.x.now).left = c.even_pair-left.ensures.left ∙ (λ i. first_half (share_of (c.contents_of-first.ensures.left i) (c.contents_of-first.ensures.right i)) (joined (c.contents_of-first.ensures.left i) (c.contents_of-first.ensures.right i))) in
    let right : c.even_pair-left.result.1 ≡ (shares_for c.args.x.now).right = c.even_pair-left.ensures.right ∙ (λ i. last_half (share_of (c.contents_of-first.ensures.left i) (c.contents_of-first.ensures.right i)) (joined (c.contents_of-first.ensures.left i) (c.contents_of-first.ensures.right i))) in
    let above : c.set_separator-above.result ≡ (shares_for c.args.x.now).above = c.set_separator-above.ensures ∙ (ap (λ high. record c.contents_of-first.result.2 { body = Pairs (at_slot (separate_at high) c.args.x.now.slot (pairs_of c.contents_of-first.result.2)) }) (ap (λ (z : NodeData). z.high) c.left.view_is) ∙ (λ i. record (c.contents_of-first.ensures.above i) { body = Pairs (at_slot (separate_at (left i).high) c.args.x.now.slot (pairs_of (c.contents_of-first.ensures.above i))) })) in
    (λ i. record { left = left i; right = right i; above = above i })

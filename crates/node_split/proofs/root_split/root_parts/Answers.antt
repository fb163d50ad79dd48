use Rattle.std.proofs.Common.{◌≡◌, ◌+◌, ◌<◌, ◌∙◌, [], ◌∷◌, sym, ap, subst}
use Rattle.tree_shape.specs.Changes.{at_slot, divide, first_half, last_half, pair}
use Rattle.tree_laws.specs.Lawful.{IsOrdered}
use Rattle.tree_shape.specs.NodeData.{NodeData, Pairs, pairs_of}
use Rattle.tree_laws.specs.Steps.{IsFull, middle, middle_fence, root_over}
use Rattle.node_split.proofs.root_split.root_parts.Goals as goal

pub halves-left-requires-clause-ordered : goal.halves-left-requires-clause-ordered
halves-left-requires-clause-ordered c = subst IsOrdered (sym c.content_of-root.ensures.content) c.requires.ordered

pub halves-left-requires-clause-full : goal.halves-left-requires-clause-full
halves-left-requires-clause-full c = subst (λ (s : NodeData). IsFull s.body) (sym c.content_of-root.ensures.content) c.requires.is_full

pub lift_root-lifted-requires : goal.lift_root-lifted-requires
lift_root-lifted-requires c = record { level = subst (λ (s : NodeData). s.level < 12) (sym c.content_of-root.ensures.content) c.requires.height }

pub returns-clause-parts : goal.returns-clause-parts
returns-clause-parts c =
    let full = c.args.full.now in let s = c.content_of-root.result in
    let fence : c.left.inside.high ≡ middle_fence s = ap (λ (z : NodeData). z.high) (c.left.view_is ∙ c.halves-left.ensures.left) in
    let above = c.put_pair-above.ensures ∙ (ap (λ (l : NodeData). record l { body = Pairs (at_slot (divide c.left.inside.high full.right) 0 (pairs_of l)) }) c.lift_root-lifted.ensures.root
    ∙ ap (λ high. record s { level = s.level + 1; body = Pairs (at_slot (divide high full.right) 0 (pair full.left s.high ∷ [])) }) fence) in
    (λ i. record { left = c.halves-left.ensures.left i; right = c.halves-left.ensures.right i; above = above i })
    ∙ ap (λ (z : NodeData). record { left = first_half (middle z.body) z; right = last_half (middle z.body) z; above = root_over full.left full.right (middle_fence z) z }) c.content_of-root.ensures.content

use Rattle.std.proofs.Common.{inl, sym, subst, Option, Some, None, IfNone}
use Rattle.reg_model.specs.State.{IsFree, IsLowestOverlap}
use Rattle.tree_shape.specs.NodeData.{NodeData, IsLeaf, InOrder, entries_of}
use Rattle.tree_descent.specs.Insertion.{RefusesMember}
use Rattle.tree_descent.proofs.Refusing.{refused_after}
use Rattle.fence_move.specs.Spines.{HoldsLeafPair}
use Rattle.fence_move.proofs.NextOverlaps.{lies_above, refused_next_so, right_leaf, right_order, shows_next}
use Rattle.reg_model.specs.declared.answer.Inserted.TheVariants as inserted
use Rattle.fence_move.proofs.fence.refused_next.Goals as goal

pub first_overlap-requires-clause-leaf : goal.first_overlap-requires-clause-leaf
first_overlap-requires-clause-leaf c =
    let is = sym c.content_of-content.ensures.content in
    subst IsLeaf is (right_leaf c.args.words.now.terms c.args.leaf.now.node c.args.leaf.now.content c.args.right.now.node c.args.right.now.content c.args.member.now c.args.me.now c.requires.leaves.0 c.requires.leaves.1 c.requires.here)

pub first_overlap-requires-clause-ordered : goal.first_overlap-requires-clause-ordered
first_overlap-requires-clause-ordered c =
    let is = sym c.content_of-content.ensures.content in
    subst InOrder is (right_order c.args.words.now.terms c.args.leaf.now.node c.args.leaf.now.content c.args.right.now.node c.args.right.now.content c.args.member.now c.args.me.now c.requires.leaves.0 c.requires.leaves.1 c.requires.here)

pub load_clock-clock-requires-clause-ask : goal.load_clock-clock-requires-clause-ask
load_clock-clock-requires-clause-ask c =
    let k1 = c.content_of-content.new.me in
    let is = sym c.content_of-content.ensures.content in
    let pair = subst (HoldsLeafPair c.args.leaf.now.node c.args.leaf.now.content c.args.right.now.node c.args.right.now.content) (sym c.content_of-content.ensures.holdings) c.requires.leaves.0 in
    let found = subst (λ (s : NodeData). IsLowestOverlap c.args.member.now.span (entries_of s) c.in_ok-other.other) (sym is) c.in_ok-other.ensures.found in
    inl (c.in_ok-other.other, shows_next c.args.words.now.terms c.args.leaf.now.node c.args.leaf.now.content c.args.right.now.node c.args.right.now.content c.args.member.now k1 pair c.requires.leaves.1 c.requires.here c.requires.free c.in_ok-other.other found)

pub returns-clause-overlaps : goal.returns-clause-overlaps
returns-clause-overlaps c =
    let t = c.args.words.now.terms in let m = c.args.member.now in let k = c.args.me.now in let k1 = c.content_of-content.new.me in let kept = c.content_of-content.ensures.holdings in
    let is = sym c.content_of-content.ensures.content in
    let pair = subst (HoldsLeafPair c.args.leaf.now.node c.args.leaf.now.content c.args.right.now.node c.args.right.now.content) (sym kept) c.requires.leaves.0 in
    let found = subst (λ (s : NodeData). IsLowestOverlap m.span (entries_of s) c.in_ok-other.other) (sym is) c.in_ok-other.ensures.found in
    subst (λ s. RefusesMember t m (inserted.Overlap c.in_ok-other.other s) k c.load_clock-clock.new.me) (sym c.updates_at.ensures)
    (refused_after t m _ k k1 c.load_clock-clock.new.me kept c.content_of-content.ensures.steps
    (refused_next_so t c.args.leaf.now.node c.args.leaf.now.content c.args.right.now.node c.args.right.now.content m k1 pair c.requires.leaves.1 c.requires.here c.requires.free c.in_ok-other.other found
    c.load_clock-clock.new.me c.load_clock-clock.result c.load_clock-clock.ensures.log c.load_clock-clock.ensures.refusal c.load_clock-clock.ensures.rest))

if_none : {A : Type 0} (P : Type 0) (o : Option A) → P → IfNone o P
if_none P None p = p
if_none P (Some x) p = tt

pub returns-in_err-other-clause-same : goal.returns-in_err-other-clause-same
returns-in_err-other-clause-same c = if_none _ c.from_residual.result c.content_of-content.ensures.steps

pub returns-in_err-other-clause-free : goal.returns-in_err-other-clause-free
returns-in_err-other-clause-free c =
    let is = sym c.content_of-content.ensures.content in
    let none = subst (λ (s : NodeData). IsFree c.args.member.now.span (entries_of s)) (sym is) c.in_err-other.ensures.none in
    let above = lies_above c.args.words.now.terms c.args.leaf.now.node c.args.leaf.now.content c.args.right.now.node c.args.right.now.content c.args.member.now c.args.me.now c.requires.leaves.0 c.requires.leaves.1 c.requires.here c.requires.never_root none in
    if_none _ c.from_residual.result (c.content_of-content.ensures.holdings, none, above.0, above.1)

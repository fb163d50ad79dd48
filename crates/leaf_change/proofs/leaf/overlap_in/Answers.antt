use Rattle.std.proofs.Common.{sym, subst, arith}
use Rattle.tree_shape.specs.NodeData.{entries_of}
use Rattle.tree_shape.proofs.Orders.{leaf_order}
use Rattle.node_store.proofs.Outlined.{no_loads}
use Rattle.node_store.specs.Outlines.{OnlyLoads}
use Rattle.tree_descent.proofs.Outlining.{loads_then}
use Rattle.leaf_change.proofs.Overlapping.{NoneLast, found_before, found_behind, none_behind}
use Rattle.leaf_change.proofs.leaf.overlap_in.Goals.{After-overlap_at-2, then-begun-gt0+in_default, else-begun-gt0}
use Rattle.leaf_change.proofs.leaf.overlap_in.Goals as goal

pub returns-in-Some-clause-found : goal.returns-in-Some-clause-found
returns-in-Some-clause-found c =
    let s = c.args.leaf.now.content in
    let some = c.if-begun-gt0.true in
    found_before s.low s.high (entries_of s) c.args.span.now (leaf_order s c.requires.leaf c.requires.ordered) c.args.begun c.in-Some.entry c.requires.begun (λ e. omega (arith, e, some)) c.in-Some.ensures.found

-- the last that begins at or below the first address was looked at, if there is one
so_far : (c : After-overlap_at-2) → NoneLast c.args.leaf.now.content.low c.args.leaf.now.content.high (entries_of c.args.leaf.now.content) c.args.span.now (leaf_order c.args.leaf.now.content c.requires.leaf c.requires.ordered) c.args.begun × OnlyLoads c.args.me.now c.if-begun-gt0.me
so_far c = elim c.if-begun-gt0.branch [
  | then-begun-gt0+in_default w ↦ (λ _. w.in_default.ensures.none, subst (OnlyLoads c.args.me.now) (sym w.me-is) w.overlap_at.ensures.loads)
  | else-begun-gt0 w ↦ (λ some. absurd (let least = w.if-begun-gt0.false in omega (arith, some, least)), subst (OnlyLoads c.args.me.now) (sym w.me-is) (no_loads c.args.me.now))
]

pub returns-clause-found : goal.returns-clause-found
returns-clause-found c =
    let s = c.args.leaf.now.content in
    found_behind s.low s.high (entries_of s) c.args.span.now (leaf_order s c.requires.leaf c.requires.ordered) c.args.begun c.overlap_at-2.result c.requires.begun (so_far (goal.at.returns-clause-found c).After-overlap_at-2).0 c.overlap_at-2.ensures.found

pub returns-clause-none : goal.returns-clause-none
returns-clause-none c =
    let s = c.args.leaf.now.content in
    none_behind s.low s.high (entries_of s) c.args.span.now (leaf_order s c.requires.leaf c.requires.ordered) c.args.begun c.overlap_at-2.result c.requires.begun (so_far (goal.at.returns-clause-none c).After-overlap_at-2).0 c.overlap_at-2.ensures.none

pub returns-clause-loads : goal.returns-clause-loads
returns-clause-loads c = loads_then c.args.me.now c.if-begun-gt0.me c.overlap_at-2.new.me (so_far (goal.at.returns-clause-loads c).After-overlap_at-2).1 c.overlap_at-2.ensures.loads

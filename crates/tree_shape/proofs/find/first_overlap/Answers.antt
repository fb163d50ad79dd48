use Rattle.std.proofs.Common.{◌≡◌, ◌∙◌, length, take, get_or, ap, arith, subst}
use Rattle.std.proofs.lemmas.List.{take_all}
use Rattle.std.proofs.lemmas.List.Elements.{All-more}
use Rattle.std.proofs.lemmas.Bool.{both_ways}
use Rattle.reg_model.specs.SpanData.{Overlaps}
use Rattle.reg_model.specs.State.{IsFree}
use Rattle.reg_model.specs.declared.span.Member.{Member}
use Rattle.tree_shape.specs.NodeData.{entries_of}
use Rattle.tree_shape.proofs.Orders.{leaf_order, first_is_lowest}
use Rattle.tree_shape.proofs.find.first_overlap.Goals as goal

pub returns-then-overlaps-clause-found : goal.returns-then-overlaps-clause-found
returns-then-overlaps-clause-found c =
    let within = leaf_order c.args.node.now c.requires.leaf c.requires.ordered in
    let is : c.first-item.result ≡ get_or (entries_of c.args.node.now) c.loop-first.first-index c.first-item.result =
    c.first-item.is ∙ ap (λ es. get_or es c.loop-first.first-index c.first-item.result) c.entries-first-items.ensures.value in
    first_is_lowest c.args.node.now.low c.args.node.now.high (entries_of c.args.node.now) c.args.span.now c.loop-first.first-index c.first-item.result
    within (omega (arith, ap length c.entries-first-items.ensures.value)) is c.loop-first.invariant (c.overlaps.ensures.0 c.if-overlaps.true)

pub loop-first-preserved : goal.loop-first-preserved
loop-first-preserved c =
    let is : c.first-item.result ≡ get_or (entries_of c.args.node.now) c.loop-first.first-index c.first-item.result =
    c.first-item.is ∙ ap (λ es. get_or es c.loop-first.first-index c.first-item.result) c.entries-first-items.ensures.value in
    let apart : Overlaps c.first-item.result.span c.args.span.now → ⊥ = λ meets. both_ways c.overlaps.result c.if-overlaps.false (c.overlaps.ensures.1 meets) in
    All-more (λ (m : Member). ¬ Overlaps m.span c.args.span.now) (entries_of c.args.node.now) c.loop-first.first-index c.first-item.result
    (omega (arith, ap length c.entries-first-items.ensures.value)) c.loop-first.invariant
    (subst (λ (m : Member). ¬ Overlaps m.span c.args.span.now) is apart)

pub returns-clause-none : goal.returns-clause-none
returns-clause-none c =
    let all : take c.loop-first.first-index (entries_of c.args.node.now) ≡ entries_of c.args.node.now =
    take_all c.loop-first.first-index (entries_of c.args.node.now) (omega (arith, ap length c.entries-first-items.ensures.value)) in
    subst (λ es. IsFree c.args.span.now es) all c.loop-first.invariant

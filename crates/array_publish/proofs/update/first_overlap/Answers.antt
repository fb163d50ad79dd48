use Rattle.std.proofs.Common.{◌≡◌, ◌+◌, ◌-◌, ◌/◌, inl, refl, sym, subst, arith}
use Rattle.std.proofs.lemmas.Bool.{both_ways}
use Rattle.array_publish.proofs.Overlaps.{EndAbove, end_above, end_below, first_at, none_at, none_left}
use Rattle.array_publish.proofs.update.first_overlap.Goals as goal

pub loop-low-init : goal.loop-low-init
loop-low-init c = record {
  order = (omega arith, omega arith);
  below = inl refl;
  above = inl refl;
}

pub loop-low-preserved-then-last-first : goal.loop-low-preserved-then-last-first
loop-low-preserved-then-last-first c =
    let inv = c.loop-low.invariant in let order = inv.order in let test = c.loop-low-test.true in
    let lower = c.if-last-first.true in let one = c.last.ensures.value in let two = c.first-first.ensures.value in record {
      order = (omega (arith, order, test), order.1);
      below = end_below c.args.members.now c.args.span.now.first (c.loop-low.low + (c.loop-low.high - c.loop-low.low) / 2) c.index-members-middle.result c.index-members-middle.is (omega (arith, lower, one, two));
      above = inv.above;
    }

pub loop-low-preserved : goal.loop-low-preserved
loop-low-preserved c =
    let inv = c.loop-low.invariant in let order = inv.order in let test = c.loop-low-test.true in
    let lower = c.if-last-first.false in let one = c.last.ensures.value in let two = c.first-first.ensures.value in record {
      order = (omega (arith, order, test), omega (arith, order, test));
      below = inv.below;
      above = end_above c.args.members.now c.args.span.now.first (c.loop-low.low + (c.loop-low.high - c.loop-low.low) / 2) c.index-members-middle.result c.index-members-middle.is (omega (arith, order, test)) (omega (arith, lower, one, two));
    }

pub returns-then-low-members-clause-none : goal.returns-then-low-members-clause-none
returns-then-low-members-clause-none c = none_left c.args.members.now c.args.span.now c.loop-low.low c.requires c.loop-low.invariant.below c.if-low-members.true

pub returns-then-overlaps-clause-found : goal.returns-then-overlaps-clause-found
returns-then-overlaps-clause-found c =
    let order = c.loop-low.invariant.order in
    first_at c.args.members.now c.args.span.now c.loop-low.low c.index-members-low.result c.requires c.loop-low.invariant.below (omega (arith, order, c.loop-low-test.false, c.if-low-members.false)) c.index-members-low.is (c.overlaps.ensures.0 c.if-overlaps.true)

pub returns-else-overlaps-clause-none : goal.returns-else-overlaps-clause-none
returns-else-overlaps-clause-none c =
    let order = c.loop-low.invariant.order in
    let same : c.loop-low.low ≡ c.loop-low.high = omega (arith, order, c.loop-low-test.false) in
    none_at c.args.members.now c.args.span.now c.loop-low.low c.index-members-low.result c.requires c.loop-low.invariant.below (subst (EndAbove c.args.members.now c.args.span.now.first) (sym same) c.loop-low.invariant.above) (omega (arith, order, c.loop-low-test.false, c.if-low-members.false)) c.index-members-low.is c.first-first.ensures.span.ordered (λ meets. both_ways c.overlaps.result c.if-overlaps.false (c.overlaps.ensures.1 meets))

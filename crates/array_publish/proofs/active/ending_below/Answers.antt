use Rattle.std.proofs.Common.{◌≡◌, ◌+◌, ◌-◌, ◌/◌, ◌<◌, ℕ, get_or, inl, inr, refl, ◌∙◌, subst, arith}
use Rattle.array_publish.specs.Holders.{active_words, member_in}
use Rattle.array_publish.proofs.Works.{loads_none, loads_then, may_still}
use Rattle.array_publish.proofs.active.ending_below.Goals as goal

pub loop-low-init : goal.loop-low-init
loop-low-init c = record { loads = loads_none c.args.me.now; order = (omega arith, omega arith); below = inl refl; above = inl refl }

pub active_word-last-requires-clause-work : goal.active_word-last-requires-clause-work
active_word-last-requires-clause-work c = may_still _ _ _ _ c.requires.work c.loop-low.invariant.loads

pub loop-low-preserved-then-last-address : goal.loop-low-preserved-then-last-address
loop-low-preserved-then-last-address c =
    let inv = c.loop-low.invariant in let order = inv.order in let test = c.loop-low-test.true in
    let value = c.active_word-last.ensures.value ∙ (λ i. get_or (active_words (inv.loads.kept i)) (c.place_of_member.ensures i + 1) 0) in
    let index : ℕ = c.loop-low.low + (c.loop-low.high - c.loop-low.low) / 2 in
    let before : index ≡ index + 1 - 1 = omega arith in
    let true_test = c.if-last-address.true in
    let ends : (member_in (active_words c.args.me.now.log.loader) index).span.last < c.args.address = omega (arith, value, true_test) in record {
      loads = loads_then _ _ _ inv.loads c.active_word-last.ensures.loads;
      order = (omega (arith, order, test), order.1);
      below = inr (subst (λ i. (member_in (active_words c.args.me.now.log.loader) i).span.last < c.args.address) before ends);
      above = inv.above;
    }

pub loop-low-preserved : goal.loop-low-preserved
loop-low-preserved c =
    let inv = c.loop-low.invariant in let order = inv.order in let test = c.loop-low-test.true in
    let value = c.active_word-last.ensures.value ∙ (λ i. get_or (active_words (inv.loads.kept i)) (c.place_of_member.ensures i + 1) 0) in
    let false_test = c.if-last-address.false in record {
      loads = loads_then _ _ _ inv.loads c.active_word-last.ensures.loads;
      order = (omega (arith, order, test), omega (arith, order, test));
      below = inv.below;
      above = inr (omega (arith, value, false_test));
    }

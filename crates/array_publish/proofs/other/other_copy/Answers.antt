use Rattle.std.proofs.Common.{◌≡◌, ◌≢◌, ◌+◌, ◌-◌, ◌/◌, ◌⊎◌, ℕ, List, inl, inr, refl, ◌∙◌, subst, arith}
use Rattle.std.proofs.lemmas.Bool.{both_ways}
use Rattle.word_rule.specs.CallerData.{CallerData}
use Rattle.array_publish.specs.Holders.{active_words, member_in, spare_words}
use Rattle.array_publish.proofs.Apart.{apart, at_place, headers_of, one_of}
use Rattle.array_publish.proofs.Works.{loads_then, may_still}
use Rattle.array_publish.proofs.other.other_copy.Goals as goal

pub loop-low-init : goal.loop-low-init
loop-low-init c =
    let least = c.min-high.ensures in record {
      loads = c.other_word-count.ensures.loads;
      order = (omega arith, omega (arith, least), omega (arith, least));
      below = inl refl;
      above = inl (one_of c.args.active.now.count c.other_word-count.result c.min-high.result least);
    }

pub begin_alike-requires-clause-work : goal.begin_alike-requires-clause-work
begin_alike-requires-clause-work c = may_still _ _ _ _ c.requires.work c.loop-low.invariant.loads

pub loop-low-preserved-then-begin_alike : goal.loop-low-preserved-then-begin_alike
loop-low-preserved-then-begin_alike c =
    let k0 : CallerData = c.args.me.now in
    let inv = c.loop-low.invariant in let order = inv.order in let test = c.loop-low-test.true in
    let index : ℕ = c.loop-low.low + (c.loop-low.high - c.loop-low.low) / 2 in
    let before : index ≡ index + 1 - 1 = omega arith in
    let alike = subst (λ o. (member_in (active_words o) index).span.first ≡ (member_in (spare_words o) index).span.first) inv.loads.kept (c.begin_alike.ensures.alike.0 c.if-begin_alike.true) in record {
      loads = loads_then _ _ _ inv.loads c.begin_alike.ensures.loads;
      order = (omega (arith, order, test), order.1, order.2);
      below = inr (subst (λ i. (member_in (active_words k0.log.loader) i).span.first ≡ (member_in (spare_words k0.log.loader) i).span.first) before alike);
      above = inv.above;
    }

pub loop-low-preserved : goal.loop-low-preserved
loop-low-preserved c =
    let inv = c.loop-low.invariant in let order = inv.order in let test = c.loop-low-test.true in
    let index : ℕ = c.loop-low.low + (c.loop-low.high - c.loop-low.low) / 2 in
    let unlike = subst (λ o. (member_in (active_words o) index).span.first ≢ (member_in (spare_words o) index).span.first) inv.loads.kept (λ e. both_ways c.begin_alike.result c.if-begin_alike.false (c.begin_alike.ensures.alike.1 e)) in record {
      loads = loads_then _ _ _ inv.loads c.begin_alike.ensures.loads;
      order = (omega (arith, order, test), omega (arith, order, test), omega (arith, order, test));
      below = inv.below;
      above = inr unlike;
    }

pub returns-clause-holder : goal.returns-clause-holder
returns-clause-holder c = (may_still _ _ _ _ c.requires.work c.loop-low.invariant.loads).holder

pub returns-clause-apart : goal.returns-clause-apart
returns-clause-apart c =
    let k0 : CallerData = c.args.me.now in
    let active : List ℕ = active_words k0.log.loader in
    let other : List ℕ = spare_words k0.log.loader in
    let b = c.requires.behind in
    let others : ℕ = c.other_word-count.result in
    let now = c.requires.count ∙ b.lists_after.count in
    let then = c.other_word-count.ensures.value ∙ b.lists_before.count in
    let inv = c.loop-low.invariant in
    let order = inv.order in let test = c.loop-low-test.false in
    let met : c.loop-low.high ≡ c.loop-low.low = omega (arith, order, test) in
    let above = subst (λ n. ((n ≡ c.args.active.now.count) ⊎ (n ≡ others)) ⊎ ((member_in active n).span.first ≢ (member_in other n).span.first)) met inv.above in record {
      headers = headers_of other b.before others b.lists_before then;
      members = at_place active other c.args.active.now.count others c.loop-low.low (apart c.args.words.now.terms active other c.args.active.now.count others b now then) (omega (arith, order)) (omega (arith, order)) inv.below above;
    }

pub returns-clause-room : goal.returns-clause-room
returns-clause-room c =
    let b = c.requires.behind in
    let then = c.other_word-count.ensures.value ∙ b.lists_before.count in
    let few = b.few in omega (arith, then, few)

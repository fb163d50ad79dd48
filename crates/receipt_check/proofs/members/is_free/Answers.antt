use Rattle.std.proofs.Common.{refl, ◌∙◌, sym}
use Rattle.std.proofs.lemmas.Bool.{false≢true}
use Rattle.reg_model.specs.SpanData.{Overlaps}
use Rattle.reg_model.specs.declared.span.Member.{Member}
use Rattle.receipt_check.proofs.Items.{at_item, more_items, all_items}
use Rattle.receipt_check.proofs.members.is_free.Goals as goal

pub returns-then-overlaps : goal.returns-then-overlaps
returns-then-overlaps c = (
  λ never. absurd (false≢true never),
  λ free. absurd (at_item (λ (m : Member). ¬ Overlaps m.span c.args.span.now) c.args.members.now c.loop-member.member-index c.member-item.result c.loop-member-test.true c.member-item.is free (c.overlaps.ensures.0 c.if-overlaps.true)),
)

pub loop-member-preserved : goal.loop-member-preserved
loop-member-preserved c =
    more_items (λ (m : Member). ¬ Overlaps m.span c.args.span.now) c.args.members.now c.loop-member.member-index c.member-item.result c.loop-member-test.true c.member-item.is c.loop-member.invariant (λ meets. false≢true (sym c.if-overlaps.false ∙ c.overlaps.ensures.1 meets))

pub returns : goal.returns
returns c = (λ _. all_items (λ (m : Member). ¬ Overlaps m.span c.args.span.now) c.args.members.now _ c.loop-member-test.false c.loop-member.invariant, λ _. refl)

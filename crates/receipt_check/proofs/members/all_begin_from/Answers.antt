use Rattle.std.proofs.Common.{◌≤◌, refl, ◌∙◌, sym, arith}
use Rattle.std.proofs.lemmas.Bool.{false≢true}
use Rattle.reg_model.specs.SpanData.{Overlaps}
use Rattle.reg_model.specs.declared.span.Member.{Member}
use Rattle.receipt_check.proofs.Items.{more_items, all_items}
use Rattle.receipt_check.proofs.members.all_begin_from.Goals as goal
use Rattle.receipt_check.proofs.members.all_begin_from.Goals.{else-overlaps-via-then-overlaps+else-first, else-overlaps-via-else-overlaps}

pub loop-member-preserved : goal.loop-member-preserved
loop-member-preserved c =
    more_items (λ (m : Member). Overlaps m.span c.args.span.now → c.args.first ≤ m.span.first) c.args.members.now c.loop-member.member-index c.member-item.result c.loop-member-test.true c.member-item.is c.loop-member.invariant (
    elim c.else-overlaps.branch [
      | else-overlaps-via-then-overlaps+else-first w ↦ (λ _. let first = w.first.ensures in let least = w.if-first.false in omega arith)
      | else-overlaps-via-else-overlaps w ↦ (λ meets. absurd (false≢true (sym w.if-overlaps.false ∙ c.overlaps.ensures.1 meets)))
    ]
    )

pub returns : goal.returns
returns c = (λ _. all_items (λ (m : Member). Overlaps m.span c.args.span.now → c.args.first ≤ m.span.first) c.args.members.now _ c.loop-member-test.false c.loop-member.invariant, λ _. refl)

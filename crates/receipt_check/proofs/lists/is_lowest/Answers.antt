use Rattle.std.specs.List.{Contains}
use Rattle.reg_model.specs.SpanData.{Overlaps}
use Rattle.reg_model.specs.State.{IsLowestOverlap}
use Rattle.receipt_check.proofs.KeptMembers.{fails_by}
use Rattle.receipt_check.proofs.lists.is_lowest.Goals as goal

pub returns-then-not-is_listed : goal.returns-then-not-is_listed
returns-then-not-is_listed c = λ list shown. fails_by (Contains list c.args.member.now) (IsLowestOverlap c.args.span.now list c.args.member.now) _ c.if-not-is_listed.true (c.is_listed.ensures list shown) (λ lowest. lowest.listed)

pub returns-then-not-overlaps : goal.returns-then-not-overlaps
returns-then-not-overlaps c = λ list shown. fails_by (Overlaps c.args.member.now.span c.args.span.now) (IsLowestOverlap c.args.span.now list c.args.member.now) _ c.if-not-overlaps.true c.overlaps.ensures (λ lowest. lowest.overlaps)

pub returns : goal.returns
returns c = λ list shown.
    let begin = rw c.first.ensures.value at (c.all_begin_from.ensures list shown) in (
      λ holds. record { listed = (c.is_listed.ensures list shown).0 c.if-not-is_listed.false; overlaps = c.overlaps.ensures.0 c.if-not-overlaps.false; lowest = begin.0 holds },
      λ lowest. begin.1 lowest.lowest,
    )

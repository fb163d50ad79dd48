use Rattle.std.specs.List.{Contains}
use Rattle.reg_model.specs.SpanData.{Overlaps}
use Rattle.reg_model.specs.State.{IsLowestOverlap, objects}
use Rattle.receipt_check.proofs.KeptMembers.{fails_by}
use Rattle.receipt_check.proofs.lists.Lists.is_lowest_object.Goals as goal

pub returns-then-not-is_object : goal.returns-then-not-is_object
returns-then-not-is_object c = λ s shows. fails_by (Contains (objects s) c.args.member.now) (IsLowestOverlap c.args.span.now (objects s) c.args.member.now) _ c.if-not-is_object.true (c.is_object.ensures s shows) (λ lowest. lowest.listed)

pub returns-then-not-overlaps : goal.returns-then-not-overlaps
returns-then-not-overlaps c = λ s shows. fails_by (Overlaps c.args.member.now.span c.args.span.now) (IsLowestOverlap c.args.span.now (objects s) c.args.member.now) _ c.if-not-overlaps.true c.overlaps.ensures (λ lowest. lowest.overlaps)

pub returns : goal.returns
returns c = λ s shows.
    let begin = rw c.first.ensures.value at (c.objects_begin_from.ensures s shows) in (
      λ holds. record { listed = (c.is_object.ensures s shows).0 c.if-not-is_object.false; overlaps = c.overlaps.ensures.0 c.if-not-overlaps.false; lowest = begin.0 holds },
      λ lowest. begin.1 lowest.lowest,
    )

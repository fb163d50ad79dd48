use Rattle.std.proofs.Common.{◌≤◌, take, All}
use Rattle.reg_model.specs.SpanData.{Overlaps}
use Rattle.receipt_check.proofs.members.all_begin_from.Given as goal

-- so do the members that were passed
abbrev pub invariant-loop-member : goal.invariant-loop-member
invariant-loop-member l = All (λ m. Overlaps m.span l.span → l.first ≤ m.span.first) (take l.member-index l.members)

use Rattle.receipt_check.proofs.KeptMembers.{above_some}
use Rattle.receipt_check.proofs.member_map.MemberMap.begin_above.Goals as goal

pub returns-in-Some : goal.returns-in-Some
returns-in-Some c = λ kept are. above_some c.args.self.now.apart kept are c.args.span.now c.last.ensures.span c.args.address c.in-Some.member c.overlaps.result (rw (c.min.ensures, c.last.ensures.value) at c.in-Some.ensures) c.overlaps.ensures

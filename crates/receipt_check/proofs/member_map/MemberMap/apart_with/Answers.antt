use Rattle.std.proofs.Common.{sym, ◌∙◌}
use Rattle.receipt_check.proofs.KeptMembers.{span_is, span_none}
use Rattle.receipt_check.proofs.member_map.MemberMap.apart_with.Goals as goal

pub returns-in-Some : goal.returns-in-Some
returns-in-Some c = λ kept are. c.if_spanning.ensures ∙ span_is c.args.self.now.apart kept are c.args.span.now c.in-Some.member (sym (rw c.first.ensures.value at c.in-Some.ensures))

pub returns-in-None : goal.returns-in-None
returns-in-None c = λ kept are. sym (span_none c.args.self.now.apart kept are c.args.span.now (sym (rw c.first.ensures.value at c.in-None.ensures)))

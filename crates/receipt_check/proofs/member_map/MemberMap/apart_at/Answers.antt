use Rattle.std.proofs.Common.{sym, ◌∙◌}
use Rattle.receipt_check.proofs.KeptMembers.{at_none, at_found}
use Rattle.receipt_check.proofs.member_map.MemberMap.apart_at.Goals as goal

pub returns-in-Some : goal.returns-in-Some
returns-in-Some c = λ kept are. c.if_containing.ensures ∙ at_found c.args.self.now.apart kept are c.args.pc c.in-Some.member c.in-Some.ensures

pub returns-in-None : goal.returns-in-None
returns-in-None c = λ kept are. sym (at_none c.args.self.now.apart kept are c.args.pc c.in-None.ensures)

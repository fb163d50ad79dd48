use Rattle.std.proofs.Common.{◌↔◌, List, IsTrue, sym, subst}
use Rattle.std.specs.List.{Contains}
use Rattle.reg_model.specs.declared.span.Member.{Member}
use Rattle.receipt_check.proofs.Halves.{listed_behind}
use Rattle.receipt_check.proofs.member_map.MemberMap.is_listed.Goals as goal

pub returns-else-is_apart : goal.returns-else-is_apart
returns-else-is_apart c = λ list shown. subst (λ (ms : List Member). IsTrue c.is_listed.result ↔ Contains ms c.args.member.now) (sym shown.split) (listed_behind shown.kept c.args.self.now.rest.items c.args.member.now _ _ c.if-is_apart.false (c.is_apart.ensures shown.kept shown.is_kept) (rw c.deref.ensures.value at c.is_listed.ensures))

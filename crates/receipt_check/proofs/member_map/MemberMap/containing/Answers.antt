use Rattle.std.proofs.Common.{sym, ◌∙◌, ap}
use Rattle.std.proofs.lemmas.List.Folds.{find-append}
use Rattle.reg_model.specs.SpanData.{contains}
use Rattle.reg_model.specs.Query.{member_at}
use Rattle.receipt_check.proofs.member_map.MemberMap.containing.Goals as goal

pub returns : goal.returns
returns c = λ list shown. rw (c.apart_at.ensures shown.kept shown.is_kept, c.containing.ensures, c.deref.ensures.value) at c.or.ensures ∙ sym (ap (member_at c.args.pc) shown.split ∙ find-append (λ m. contains m.span c.args.pc) shown.kept c.args.self.now.rest.items)

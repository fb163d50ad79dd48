use Rattle.std.proofs.Common.{sym, ◌∙◌, ap}
use Rattle.std.proofs.lemmas.List.Folds.{find-append}
use Rattle.reg_model.specs.SpanData.{is_same_span}
use Rattle.reg_model.specs.State.{at_span}
use Rattle.receipt_check.proofs.member_map.MemberMap.with_span.Goals as goal

pub returns : goal.returns
returns c = λ list shown. rw (c.apart_with.ensures shown.kept shown.is_kept, c.with_span.ensures, c.deref.ensures.value) at c.or.ensures ∙ sym (ap (at_span c.args.span.now) shown.split ∙ find-append (λ m. is_same_span m.span c.args.span.now) shown.kept c.args.self.now.rest.items)

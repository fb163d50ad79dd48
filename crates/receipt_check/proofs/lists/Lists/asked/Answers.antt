use Rattle.std.proofs.Common.{sym, ◌∙◌}
use Rattle.std.proofs.lemmas.List.Folds.{find-append}
use Rattle.reg_model.specs.SpanData.{contains}
use Rattle.receipt_check.proofs.lists.Lists.asked.Goals as goal

pub returns-in-Loaded : goal.returns-in-Loaded
returns-in-Loaded c = λ s shows. rw c.in-Loaded.is (rw (c.containing-in-Loaded.ensures s.fixed shows.fixed, c.containing-in-Loaded-2.ensures s.loaded shows.loaded) at c.or.ensures ∙ sym (find-append (λ m. contains m.span c.args.pc) s.fixed s.loaded))

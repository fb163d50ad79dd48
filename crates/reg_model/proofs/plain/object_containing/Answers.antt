use Rattle.std.proofs.Common.{sym, ◌∙◌}
use Rattle.std.proofs.lemmas.List.Folds.{find-append}
use Rattle.reg_model.specs.SpanData.{contains}
use Rattle.reg_model.proofs.plain.object_containing.Goals as goal

pub returns : goal.returns
returns c = rw (c.containing.ensures, c.containing-2.ensures) at c.or.ensures ∙ sym (find-append (λ m. contains m.span c.args.pc) c.args.fixed.now c.args.loaded.now)

use Rattle.reg_model.specs.SpanData.{Overlaps}
use Rattle.reg_model.specs.declared.span.Member.{Member}
use Rattle.receipt_check.proofs.Halves.{all_in_both, not_in_front}
use Rattle.receipt_check.proofs.lists.Lists.is_free_of_objects.Goals as goal

pub returns-then-is_free : goal.returns-then-is_free
returns-then-is_free c = λ s shows. all_in_both (λ (m : Member). ¬ Overlaps m.span c.args.span.now) s.fixed s.loaded _ _ c.if-is_free.true (c.is_free.ensures s.fixed shows.fixed) (c.is_free-then-is_free.ensures s.loaded shows.loaded)

pub returns-else-is_free : goal.returns-else-is_free
returns-else-is_free c = λ s shows. not_in_front (λ (m : Member). ¬ Overlaps m.span c.args.span.now) s.fixed s.loaded _ c.if-is_free.false (c.is_free.ensures s.fixed shows.fixed)

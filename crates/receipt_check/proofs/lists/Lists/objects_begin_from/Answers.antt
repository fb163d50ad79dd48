use Rattle.std.proofs.Common.{◌≤◌}
use Rattle.reg_model.specs.SpanData.{Overlaps}
use Rattle.reg_model.specs.declared.span.Member.{Member}
use Rattle.receipt_check.proofs.Halves.{all_in_both, not_in_front}
use Rattle.receipt_check.proofs.lists.Lists.objects_begin_from.Goals as goal

pub returns-then-all_begin_from : goal.returns-then-all_begin_from
returns-then-all_begin_from c = λ s shows. all_in_both (λ (m : Member). Overlaps m.span c.args.span.now → c.args.first ≤ m.span.first) s.fixed s.loaded _ _ c.if-all_begin_from.true (c.all_begin_from.ensures s.fixed shows.fixed) (c.all_begin_from-then-all_begin_from.ensures s.loaded shows.loaded)

pub returns-else-all_begin_from : goal.returns-else-all_begin_from
returns-else-all_begin_from c = λ s shows. not_in_front (λ (m : Member). Overlaps m.span c.args.span.now → c.args.first ≤ m.span.first) s.fixed s.loaded _ c.if-all_begin_from.false (c.all_begin_from.ensures s.fixed shows.fixed)

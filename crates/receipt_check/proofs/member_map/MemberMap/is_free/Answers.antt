use Rattle.std.proofs.Common.{◌↔◌, List, IsTrue, All, sym, subst}
use Rattle.reg_model.specs.SpanData.{Overlaps}
use Rattle.reg_model.specs.declared.span.Member.{Member}
use Rattle.receipt_check.proofs.Halves.{all_in_both, not_in_front}
use Rattle.receipt_check.proofs.KeptMembers.{free_same}
use Rattle.receipt_check.proofs.member_map.MemberMap.is_free.Goals as goal

pub returns-then-begin_above : goal.returns-then-begin_above
returns-then-begin_above c = λ list shown.
    let P : Member → Type 0 = λ m. ¬ Overlaps m.span c.args.span.now in
    subst (λ (ms : List Member). IsTrue c.is_free.result ↔ All P ms) (sym shown.split) (all_in_both P shown.kept c.args.self.now.rest.items _ _ c.if-begin_above.true (free_same c.args.span.now c.last.result shown.kept c.begin_above.result c.last.ensures.value (c.begin_above.ensures shown.kept shown.is_kept)) (rw c.deref.ensures.value at c.is_free.ensures))

pub returns-else-begin_above : goal.returns-else-begin_above
returns-else-begin_above c = λ list shown.
    let P : Member → Type 0 = λ m. ¬ Overlaps m.span c.args.span.now in
    subst (λ (ms : List Member). IsTrue c.begin_above.result ↔ All P ms) (sym shown.split) (not_in_front P shown.kept c.args.self.now.rest.items _ c.if-begin_above.false (free_same c.args.span.now c.last.result shown.kept c.begin_above.result c.last.ensures.value (c.begin_above.ensures shown.kept shown.is_kept)))

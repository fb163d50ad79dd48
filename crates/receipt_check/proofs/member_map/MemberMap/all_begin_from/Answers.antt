use Rattle.std.proofs.Common.{◌↔◌, ◌≤◌, List, IsTrue, All, sym, subst}
use Rattle.reg_model.specs.SpanData.{Overlaps}
use Rattle.reg_model.specs.declared.span.Member.{Member}
use Rattle.receipt_check.proofs.Halves.{all_in_both, not_in_front}
use Rattle.receipt_check.proofs.member_map.MemberMap.all_begin_from.Goals as goal

pub returns-then-begin_from : goal.returns-then-begin_from
returns-then-begin_from c = λ list shown.
    let P : Member → Type 0 = λ m. Overlaps m.span c.args.span.now → c.args.first ≤ m.span.first in
    subst (λ (ms : List Member). IsTrue c.all_begin_from.result ↔ All P ms) (sym shown.split) (all_in_both P shown.kept c.args.self.now.rest.items _ _ c.if-begin_from.true (c.begin_from.ensures shown.kept shown.is_kept) (rw c.deref.ensures.value at c.all_begin_from.ensures))

pub returns-else-begin_from : goal.returns-else-begin_from
returns-else-begin_from c = λ list shown.
    let P : Member → Type 0 = λ m. Overlaps m.span c.args.span.now → c.args.first ≤ m.span.first in
    subst (λ (ms : List Member). IsTrue c.begin_from.result ↔ All P ms) (sym shown.split) (not_in_front P shown.kept c.args.self.now.rest.items _ c.if-begin_from.false (c.begin_from.ensures shown.kept shown.is_kept))

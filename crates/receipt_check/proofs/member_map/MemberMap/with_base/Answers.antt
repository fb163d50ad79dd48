use Rattle.std.proofs.Common.{sym, ◌∙◌, ap, refl, ◌==◌}
use Rattle.std.specs.Option.{option_or}
use Rattle.std.specs.BTreeMap.{get}
use Rattle.std.specs.Ordering.{nat_cmp}
use Rattle.std.proofs.lemmas.List.Folds.{find-append}
use Rattle.reg_model.specs.State.{at_base}
use Rattle.receipt_check.proofs.KeptMembers.{base_is}
use Rattle.receipt_check.proofs.member_map.MemberMap.with_base.Goals as goal

pub returns : goal.returns
returns c = λ list shown.
    let base = c.args.base in
    let rest = c.args.self.now.rest.items in
    rw (c.under.ensures, c.with_base.ensures, c.deref.ensures.value) at c.or.ensures ∙ ap (λ o. option_or o (at_base base rest)) (sym (base_is c.args.self.now.apart shown.kept shown.is_kept base (get nat_cmp c.args.self.now.apart base) refl)) ∙ sym (ap (at_base base) shown.split ∙ find-append (λ m. m.span.first == base) shown.kept rest)

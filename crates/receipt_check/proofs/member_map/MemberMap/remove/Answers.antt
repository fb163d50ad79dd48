use Rattle.std.proofs.Common.{◌++◌, ◌==◌, not, List, sym, ◌∙◌, ap}
use Rattle.std.proofs.lemmas.List.Elements.{filter-append}
use Rattle.reg_model.specs.History.{without}
use Rattle.reg_model.specs.declared.span.Member.{Member}
use Rattle.receipt_check.proofs.KeptMembers.{kept_without}
use Rattle.receipt_check.proofs.member_map.MemberMap.remove.Goals as goal

pub returns : goal.returns
returns c = λ list shown.
    let base = c.args.base in
    let went = c.let_go.ensures in
    record {
      kept = without base shown.kept;
      is_kept = kept_without c.args.self.now.apart shown.kept shown.is_kept c.let_go.new.self.apart base went.here went.others went.many;
      split = ap (without base) shown.split ∙ filter-append (λ (m : Member). not (m.span.first == base)) shown.kept c.args.self.now.rest.items ∙ ap (λ (rest : List Member). without base shown.kept ++ rest) (sym (c.remove_base.ensures ∙ ap (without base) went.rest));
    }

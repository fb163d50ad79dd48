use Rattle.std.proofs.Common.{sym, ◌∙◌, ap, subst}
use Rattle.std.specs.Option.{is_some}
use Rattle.std.proofs.lemmas.Bool.{false≢true}
use Rattle.reg_model.proofs.Replacing.{with_payload_absent}
use Rattle.receipt_check.specs.Maps.{IsMapOf}
use Rattle.receipt_check.proofs.KeptMembers.{kept_replaced, none_of}
use Rattle.receipt_check.proofs.member_map.MemberMap.replace_apart.Goals as goal

pub returns-then-is_none-clause-apart : goal.returns-then-is_none-clause-apart
returns-then-is_none-clause-apart c = λ kept are.
    subst (IsMapOf c.args.self.now.apart) (sym (with_payload_absent c.args.member.now kept (sym (c.apart_with.ensures kept are) ∙ none_of c.apart_with.result (λ some. false≢true (sym c.if-is_none.ensures ∙ some))))) are

pub returns-clause-apart : goal.returns-clause-apart
returns-clause-apart c = λ kept are.
    let keeps = c.in_ok-keep.ensures in
    kept_replaced c.args.self.now.apart kept are c.keep.new.self.apart c.args.member.now keeps.span (sym (ap is_some (c.apart_with.ensures kept are)) ∙ c.if-is_none.ensures) keeps.here keeps.others keeps.as_many

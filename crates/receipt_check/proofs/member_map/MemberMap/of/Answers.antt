use Rattle.std.proofs.Common.{◌++◌, [], ◌∷◌, List, take, sym, ◌∙◌, ap, subst}
use Rattle.std.proofs.lemmas.List.{take_more}
use Rattle.reg_model.specs.declared.span.Member.{Member}
use Rattle.receipt_check.specs.Maps.{Reflects}
use Rattle.receipt_check.proofs.member_map.MemberMap.of.Goals as goal

pub loop-member-preserved : goal.loop-member-preserved
loop-member-preserved c =
    let members = c.args.members.now in
    let i = c.loop-member.member-index in
    let grown = take_more members i c.member-item.result c.loop-member-test.true ∙ ap (λ (m : Member). take i members ++ m ∷ []) (sym c.member-item.is) in
    subst (λ (ms : List Member). Reflects c.push.new.self ms) (sym grown) (c.in_ok-push.ensures (take i members) c.loop-member.invariant)

use Rattle.std.proofs.Common.{List, [], ◌∷◌, ◌++◌, map, get_or, take, sym, ap, ◌∙◌}
use Rattle.std.proofs.lemmas.List.{map-append, take_more}
use Rattle.reg_model.specs.declared.span.Member.{Member}
use Rattle.script_text.specs.Lawful.{image_member}
use Rattle.script_text.proofs.members.members_of.Goals as goal

pub loop-number-preserved : goal.loop-number-preserved
loop-number-preserved c =
    let member = image_member c.args.images.now in
    let numbers = c.args.numbers.now in
    let i = c.loop-number.number-index in
    c.in_ok-push.ensures.items
    ∙ ap (λ (members : List Member). members ++ c.member_of.result ∷ []) c.loop-number.invariant
    ∙ ap (λ (m : Member). map member (take i numbers) ++ m ∷ []) c.member_of.ensures
    ∙ sym (ap (map member) (take_more numbers i 0 c.loop-number-test.true) ∙ map-append member (take i numbers) (get_or numbers i 0 ∷ []))

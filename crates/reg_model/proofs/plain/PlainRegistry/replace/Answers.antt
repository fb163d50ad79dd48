use Rattle.std.proofs.Common.{◌≡◌, List, length, None, refl, sym, ◌∙◌, ap, subst}
use Rattle.std.specs.Vec.{with_items}
use Rattle.std.proofs.lemmas.List.{with_items_is}
use Rattle.reg_model.proofs.Replacing.{with_payload_absent}
use Rattle.reg_model.specs.State.{at_span}
use Rattle.reg_model.specs.History.{with_payload}
use Rattle.reg_model.specs.PlainRegistryData.{Step}
use Rattle.reg_model.specs.declared.span.Member.{Member}
use Rattle.reg_model.specs.declared.answer.Receipt.TheVariants as receipt
use Rattle.reg_model.specs.declared.answer.Replaced.TheVariants as replaced
use Rattle.reg_model.proofs.plain.PlainRegistry.replace.Goals as goal

pub returns-in-None : goal.returns-in-None
returns-in-None c =
    let items = c.self.inside.registered.items in
    let before : c.deref_mut.result.now ≡ items = c.deref_mut.ensures.value in
    let none : at_span c.args.member.span items ≡ None = ap (at_span c.args.member.span) (sym before) ∙ sym c.in-None.ensures.before in
    let same : c.exchange.new.members ≡ items = c.exchange.ensures.payload ∙ ap (with_payload c.args.member) before ∙ with_payload_absent c.args.member items none in
    let kept : (with_items c.self.inside.registered c.exchange.new.members).items ≡ items = with_items_is c.self.inside.registered c.exchange.new.members (ap length same ∙ sym c.self.inside.registered.ok.0) ∙ same in
    let After : List Member → Type 0 = λ members. Step c.args.self.now (receipt.Replace c.args.member (replaced.NotFound c.self.inside.updates)) (record { state = record { registered = members; loaded = c.self.inside.loaded.items; fixed = c.self.inside.fixed.items; loads = c.self.inside.loads }; updates = c.self.inside.updates }) in
    let unchanged : After items = rw (← c.self.view_is) (record { right = rw none refl; changes = (refl, refl) }) in
    record { step = subst After (sym kept) unchanged }

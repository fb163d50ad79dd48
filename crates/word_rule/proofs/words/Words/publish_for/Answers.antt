use Rattle.std.proofs.Common.{sym, ap, ◌∙◌, subst, arith, IsSomeAnd}
use Rattle.word_rule.specs.Key.{terms_of}
use Rattle.word_rule.specs.Steps.{MayPublish}
use Rattle.word_rule.specs.declared.log.Terms.{Terms}
use Rattle.word_rule.proofs.Publishing.{publishes_held}
use Rattle.word_rule.proofs.words.Words.publish_for.Goals as goal

pub fetch_add-requires : goal.fetch_add-requires
fetch_add-requires g c =
    let may = subst (λ (t : Terms). IsSomeAnd c.args.seat.now.me.0.loader (MayPublish t c.args.seat.now.me.0.budget.allowance c.args.update)) (ap (λ k. k.terms) (sym c.self.view_is) ∙ ap terms_of (sym c.self.invariant.0)) c.requires.may in (
      c.requires.table ∙ sym (ap (λ k. k.table) c.self.view_is),
      omega (arith, c.self.invariant.1),
      publishes_held _ _ _ _ c.requires.caller _ _ c.requires.about may,
    )

use Rattle.std.proofs.Common.{sym, ap, ◌∙◌, subst, arith, IsSomeAnd}
use Rattle.word_rule.specs.Key.{terms_of}
use Rattle.word_rule.specs.Steps.{MayStoreCopy}
use Rattle.word_rule.specs.CallerData.{CallerData}
use Rattle.word_rule.specs.declared.log.Terms.{Terms}
use Rattle.word_rule.proofs.CopyStores.{spare_inside, stores_held}
use Rattle.word_rule.proofs.words.Words.store_copy.Goals as goal

pub store-requires : goal.store-requires
store-requires c =
    let mine = subst (λ (k : CallerData). IsSomeAnd k.log.loader (MayStoreCopy c.args.self.now.terms c.args.at)) (sym c.me.view_is) c.requires.spare in
    let made = subst (λ (t : Terms). IsSomeAnd c.me.inside.seat.me.0.loader (MayStoreCopy t c.args.at)) (sym (ap (λ k. k.terms) c.self.view_is)) mine in
    let inside = spare_inside (terms_of c.self.inside.made) c.args.at c.me.inside.seat.me.0.loader made in
    let kept = subst (λ (t : Terms). IsSomeAnd c.me.inside.seat.me.0.loader (MayStoreCopy t c.args.at)) (ap terms_of (sym c.self.invariant.0)) made in (
      ap (λ k. k.table) c.me.view_is ∙ (c.requires.table ∙ sym (ap (λ k. k.table) c.self.view_is)),
      omega (arith, inside, c.self.invariant.1),
      stores_held _ _ _ _ c.me.invariant.role _ _ kept,
    )

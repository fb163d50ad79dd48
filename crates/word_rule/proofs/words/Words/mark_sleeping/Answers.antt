use Rattle.std.proofs.Common.{sym, ap, ◌∙◌, subst, arith}
use Rattle.word_rule.specs.Key.{terms_of}
use Rattle.word_rule.specs.VersionLocks.{IsLock}
use Rattle.word_rule.proofs.NodeTries.{lock_within, marks_lock}
use Rattle.word_rule.proofs.words.Words.mark_sleeping.Goals as goal

pub compare_exchange-found-requires : goal.compare_exchange-found-requires
compare_exchange-found-requires c =
    let terms = ap terms_of c.self.invariant.0 ∙ ap (λ k. k.terms) c.self.view_is in
    let made = ap (λ k. k.terms) c.self.view_is in
    let place = c.word_of.ensures in
    let wide = c.self.invariant.1 in
    let less = lock_within (terms_of c.self.inside.made) c.args.lock (subst (λ k. IsLock k c.args.lock) (sym made) c.requires.lock) in (
      ap (λ k. k.table) c.me.view_is ∙ (c.requires.table ∙ sym (ap (λ k. k.table) c.self.view_is)),
      omega (arith, wide, place, less),
      marks_lock _ _ _ _ c.me.invariant.role c.args.lock _ _ place (subst (λ k. IsLock k c.args.lock) (sym terms) c.requires.lock) c.requires.locked,
    )

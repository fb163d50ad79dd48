use Rattle.std.proofs.Common.{◌≡◌, ◌<◌, sym, ap, ◌∙◌, subst, arith, IsSomeAnd, IfSome, false}
use Rattle.word_rule.specs.CallerData.{surplus}
use Rattle.word_rule.specs.Plays.{Seated}
use Rattle.word_rule.specs.declared.log.Role.TheVariants as role
use Rattle.word_rule.proofs.Loader.{releases_kept}
use Rattle.word_rule.proofs.words.Words.release_loader.Goals as goal

pub swap-requires : goal.swap-requires
swap-requires c =
    let some_credit : 0 < c.me.inside.seat.me.0.budget.credit = (let s = subst (λ k. 0 < surplus k) (sym c.me.view_is) c.requires.surplus in omega (arith, s)) in
    let v = c.loader_version-next in
    let clean = subst (λ k. IsSomeAnd k.log.loader (λ h. h.stored ≡ false)) (sym c.me.view_is) c.requires.clean in (
      v.ensures.same.0 ∙ (ap (λ k. k.table) c.me.view_is ∙ (c.requires.table ∙ sym (ap (λ k. k.table) c.self.view_is))),
      omega (arith, c.self.invariant.1),
      releases_kept _ _ _ _ (subst (λ (m : Seated). m.0.role ≡ role.Caller) (sym v.ensures.same.2) c.me.invariant.role) v.result (subst (λ (m : Seated). IsSomeAnd m.0.loader (λ h. h.stored ≡ false)) (sym v.ensures.same.2) clean)
          (subst (λ (m : Seated). IfSome m.0.loader (λ h. h.version ≡ v.result)) (sym v.ensures.same.2) v.ensures.version) (subst (λ (m : Seated). 0 < m.0.budget.credit) (sym v.ensures.same.2) some_credit),
    )

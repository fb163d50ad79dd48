use Rattle.std.proofs.Common.{◌≡◌, sym, ap, ◌∙◌, subst, arith, IsSomeAnd, IfSome, false}
use Rattle.word_rule.specs.Plays.{Seated}
use Rattle.word_rule.specs.declared.log.Role.TheVariants as role
use Rattle.word_rule.proofs.Loader.{releases_same_kept}
use Rattle.word_rule.proofs.words.Words.release_loader_same.Goals as goal

pub swap-requires : goal.swap-requires
swap-requires c =
    let v = c.loader_version-same in
    let clean = subst (λ k. IsSomeAnd k.log.loader (λ h. h.stored ≡ false)) (sym c.me.view_is) c.requires.clean in (
      v.ensures.same.0 ∙ (ap (λ k. k.table) c.me.view_is ∙ (c.requires.table ∙ sym (ap (λ k. k.table) c.self.view_is))),
      omega (arith, c.self.invariant.1),
      releases_same_kept _ _ _ _ (subst (λ (m : Seated). m.0.role ≡ role.Caller) (sym v.ensures.same.2) c.me.invariant.role) v.result (subst (λ (m : Seated). IsSomeAnd m.0.loader (λ h. h.stored ≡ false)) (sym v.ensures.same.2) clean)
          (subst (λ (m : Seated). IfSome m.0.loader (λ h. h.version ≡ v.result)) (sym v.ensures.same.2) v.ensures.version),
    )

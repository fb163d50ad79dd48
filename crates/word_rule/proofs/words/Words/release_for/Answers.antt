use Rattle.std.proofs.Common.{◌≡◌, ◌<◌, sym, ap, ◌∙◌, subst, arith, IfSome}
use Rattle.word_rule.specs.Held.{held_of}
use Rattle.word_rule.specs.Steps.{MayRelease, after_node_release}
use Rattle.word_rule.specs.Plays.{Seated}
use Rattle.word_rule.specs.declared.log.Role.TheVariants as role
use Rattle.word_rule.proofs.NodeReleases.{releases_of}
use Rattle.word_rule.proofs.words.Words.release_for.Goals as goal

pub swap-requires : goal.swap-requires
swap-requires g c = let v = c.held_version-version in (
  v.ensures.same.0 ∙ (c.requires.table ∙ sym (ap (λ k. k.table) c.self.view_is)),
  omega (arith, c.self.invariant.1, c.place_of.ensures, c.requires.inside, ap (λ k. k.terms.nodes) c.self.view_is),
  releases_of _ _ _ _ (subst (λ (m : Seated). m.0.role ≡ role.Caller) (sym v.ensures.same.2) c.requires.caller) c.exchange_laws.ensures c.agreement.ensures c.decided.ensures _ _ _ _ c.requires.about c.place_of.ensures (subst (λ (m : Seated). MayRelease c.args.node m.0) (sym v.ensures.same.2) c.requires.may) (subst (λ (m : Seated). 0 < m.0.budget.credit) (sym v.ensures.same.2) c.requires.credit)
      (subst (λ (m : Seated). IfSome (held_of c.args.node m.0.holdings.held) (λ h. h.version ≡ v.result)) (sym v.ensures.same.2) (subst (λ k. IfSome (held_of k c.args.seat.now.me.0.holdings.held) (λ h. h.version ≡ v.result)) c.requires.about v.ensures.version)),
)

pub returns-clause-log : goal.returns-clause-log
returns-clause-log g c = ap (λ (m : Seated). m.0) c.swap.ensures.2.0 ∙ ap (λ (m : Seated). after_node_release _ m.0) c.held_version-version.ensures.same.2

use Rattle.std.proofs.Common.{◌≡◌, sym, ap, ◌∙◌, subst, arith, None, []}
use Rattle.word_rule.specs.Logs.{is_nameless}
use Rattle.word_rule.proofs.Joins.{joins}
use Rattle.word_rule.proofs.words.Words.join.Goals as goal

pub join_seat-requires : goal.join_seat-requires
join_seat-requires c = (
  ap (λ k. k.table) c.me.view_is ∙ (c.requires.table ∙ sym (ap (λ k. k.table) c.self.view_is)),
  ap (λ k. k.table) c.other.view_is ∙ (c.requires.other ∙ sym (ap (λ k. k.table) c.self.view_is)),
  c.other.invariant.bare,
  omega (arith, c.self.invariant.1),
  joins _ _ _ c.me.invariant.role _ _ (ap is_nameless c.other.invariant.role) (subst (λ k. k.log.loader ≡ None) (sym c.other.view_is) c.requires.idle.0)
      (subst (λ k. k.log.holdings.held ≡ []) (sym c.other.view_is) c.requires.idle.1) (subst (λ k. k.log.holdings.out ≡ []) (sym c.other.view_is) c.requires.idle.2),
)

use Rattle.std.proofs.Common.{sym, ap, ◌∙◌, subst, arith}
use Rattle.word_rule.specs.Steps.{MayPop}
use Rattle.word_rule.proofs.HeadPlays.{pops_head}
use Rattle.word_rule.proofs.words.Words.pop.Goals as goal

pub compare_exchange-found-requires : goal.compare_exchange-found-requires
compare_exchange-found-requires c = (
  ap (λ k. k.table) c.me.view_is ∙ (c.requires.table ∙ sym (ap (λ k. k.table) c.self.view_is)),
  omega (arith, c.self.invariant.1),
  pops_head _ _ _ _ c.me.invariant.role c.fillings.ensures.entries (record { members = c.order.ensures.entries; ascending = c.order.ensures.ascending }) _ _ (subst (λ k. MayPop c.args.node c.args.next k.log) (sym c.me.view_is) c.requires.may),
)

use Rattle.std.proofs.Common.{sym, ap, ◌∙◌, arith}
use Rattle.word_rule.proofs.NodeTries.{locks_node_by_bit}
use Rattle.word_rule.proofs.words.Words.try_node_for.Goals as goal

pub compare_exchange-requires : goal.compare_exchange-requires
compare_exchange-requires g c = (
  c.requires.table ∙ sym (ap (λ k. k.table) c.self.view_is),
  omega (arith, c.self.invariant.1, c.place_of.ensures, c.requires.inside, ap (λ k. k.terms.nodes) c.self.view_is),
  locks_node_by_bit _ _ _ _ c.requires.caller (record { live = c.children.ensures.live; never_root = c.children.ensures.never_root }) c.children.ensures.root _ _ _ _ c.requires.about c.place_of.ensures c.requires.unlocked (omega (arith, c.requires.inside, ap (λ k. k.terms.nodes) c.self.view_is, ap (λ k. k.nodes) c.self.invariant.0)),
)

use Rattle.std.proofs.Common.{sym, ap, ◌∙◌, arith}
use Rattle.word_rule.proofs.NodeStores.{stores_node_of}
use Rattle.word_rule.proofs.words.Words.store_node_for.Goals as goal

pub store-requires : goal.store-requires
store-requires g c = (
  c.requires.table ∙ sym (ap (λ k. k.table) c.self.view_is),
  omega (arith, c.self.invariant.1, c.place_of.ensures, c.requires.inside, ap (λ k. k.terms.nodes) c.self.view_is, c.requires.word),
  stores_node_of _ _ _ _ c.requires.caller c.exchange_laws.ensures c.agreement.ensures c.decided.ensures c.children.ensures.root _ _ _ _ _ _ c.requires.about.0 c.requires.about.1 (omega (arith, c.place_of.ensures)) c.requires.may c.requires.word.0 c.requires.word.1,
)

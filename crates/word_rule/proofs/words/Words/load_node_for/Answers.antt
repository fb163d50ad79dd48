use Rattle.std.proofs.Common.{sym, ap, ◌∙◌, arith}
use Rattle.word_rule.proofs.WordLoads.{loads_word_of}
use Rattle.word_rule.proofs.words.Words.load_node_for.Goals as goal

pub load-requires : goal.load-requires
load-requires g c = (
  c.requires.table ∙ sym (ap (λ k. k.table) c.self.view_is),
  omega (arith, c.self.invariant.1, c.place_of.ensures, c.requires.inside, ap (λ k. k.terms.nodes) c.self.view_is, c.requires.word),
  loads_word_of _ _ _ _ c.requires.stands (record { full = c.fillings.ensures.full; height = c.fillings.ensures.height })
      (record { members = c.order.ensures.entries; ascending = c.order.ensures.ascending }) c.children.ensures.root (record { live = c.children.ensures.live; never_root = c.children.ensures.never_root }) _ _ (omega (arith, c.requires.inside, ap (λ k. k.terms.nodes) c.self.view_is, ap (λ k. k.nodes) c.self.invariant.0)) c.requires.word.0 c.requires.word.1 _ _ _
      c.requires.about.0 c.requires.about.1 (omega (arith, c.place_of.ensures)),
)

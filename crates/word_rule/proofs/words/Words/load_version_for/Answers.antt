use Rattle.std.proofs.Common.{sym, ap, ◌∙◌, arith}
use Rattle.word_rule.specs.Key.{terms_of}
use Rattle.word_rule.proofs.NodeVersions.{loads_version_of}
use Rattle.word_rule.proofs.words.Words.load_version_for.Goals as goal

pub load-requires : goal.load-requires
load-requires g c = (
  c.requires.table ∙ sym (ap (λ k. k.table) c.self.view_is),
  omega (arith, c.self.invariant.1, c.place_of.ensures, c.requires.inside, ap (λ k. k.terms.nodes) c.self.view_is),
  loads_version_of _ _ _ _ c.requires.stands (record { live = c.children.ensures.live; never_root = c.children.ensures.never_root }) _ _ _ _ _ _ (ap terms_of c.self.invariant.0 ∙ (ap (λ k. k.terms) c.self.view_is ∙ sym c.requires.about.2)) c.requires.about.1 c.requires.about.0 c.place_of.ensures (omega (arith, c.requires.inside, ap (λ k. k.terms.nodes) c.self.view_is, ap (λ k. k.nodes) c.self.invariant.0)),
)

use Rattle.std.proofs.Common.{sym, ap, ◌∙◌, arith}
use Rattle.word_rule.proofs.Peeking.{peeks_of, node_version}
use Rattle.word_rule.proofs.words.Words.held_version.Goals as goal

pub load-found-requires : goal.load-found-requires
load-found-requires g c = (
  c.requires.table ∙ sym (ap (λ k. k.table) c.self.view_is),
  omega (arith, c.self.invariant.1, c.place_of.ensures, c.requires.inside, ap (λ k. k.terms.nodes) c.self.view_is),
  peeks_of _ _ _ _ _ _ _ (omega (arith, c.requires.inside, ap (λ k. k.terms.nodes) c.self.view_is, ap (λ k. k.nodes) c.self.invariant.0)) c.requires.about c.place_of.ensures,
)

pub returns-clause-version : goal.returns-clause-version
returns-clause-version g c = node_version _ _ c.load-found.ensures.2.1

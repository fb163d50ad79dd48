use Rattle.std.proofs.Common.{sym, ap, ◌∙◌, arith}
use Rattle.word_rule.specs.Logs.{is_gone}
use Rattle.word_rule.proofs.NodeLoads.{loads_copy_word}
use Rattle.word_rule.proofs.words.Words.load_copy.Goals as goal

pub load-requires : goal.load-requires
load-requires c = (
  ap (λ k. k.table) c.me.view_is ∙ (c.requires.table ∙ sym (ap (λ k. k.table) c.self.view_is)),
  omega (arith, c.requires.copy, ap (λ k. k.terms.nodes) c.self.view_is, ap (λ k. k.terms.loads) c.self.view_is, c.self.invariant.1),
  loads_copy_word _ _ _ _ (ap is_gone c.me.invariant.role) _ (omega (arith, c.requires.copy, ap (λ k. k.terms.nodes) c.self.view_is, ap (λ k. k.nodes) c.self.invariant.0)),
)

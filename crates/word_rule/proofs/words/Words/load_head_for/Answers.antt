use Rattle.std.proofs.Common.{sym, ap, ◌∙◌, arith}
use Rattle.word_rule.specs.Key.{terms_of}
use Rattle.word_rule.proofs.HeadLoads.{loads_head_of}
use Rattle.word_rule.proofs.words.Words.load_head_for.Goals as goal

pub load-requires : goal.load-requires
load-requires g c =
    let terms = ap terms_of c.self.invariant.0 ∙ (ap (λ k. k.terms) c.self.view_is ∙ sym c.requires.about) in (
      c.requires.table ∙ sym (ap (λ k. k.table) c.self.view_is),
      omega (arith, c.self.invariant.1),
      loads_head_of _ _ _ _ c.requires.caller c.fillings.ensures.entries (record { members = c.order.ensures.entries; ascending = c.order.ensures.ascending }) _ terms,
    )

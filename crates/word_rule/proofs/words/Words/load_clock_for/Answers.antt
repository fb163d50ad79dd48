use Rattle.std.proofs.Common.{sym, ap, ◌∙◌, arith}
use Rattle.word_rule.specs.Key.{terms_of}
use Rattle.word_rule.proofs.ClockLoads.{LeafLaw, loads_clock_of, may_ask}
use Rattle.word_rule.proofs.words.Words.load_clock_for.Goals as goal

pub load-requires : goal.load-requires
load-requires g c =
    let law : LeafLaw = record { kind = c.leaf_fences.ensures.kind; entries = c.leaf_fences.ensures.entries; found = c.leaf_fences.ensures.found } in
    let terms = ap terms_of c.self.invariant.0 ∙ (ap (λ k. k.terms) c.self.view_is ∙ sym c.requires.about.1) in
    let may = may_ask _ _ _ _ c.args.seat.now.me.0 (sym c.requires.about.0) (ap (λ k. k.terms) (sym c.self.view_is) ∙ ap terms_of (sym c.self.invariant.0)) c.requires.ask in (
      c.requires.table ∙ sym (ap (λ k. k.table) c.self.view_is),
      omega (arith, c.self.invariant.1),
      loads_clock_of law _ _ _ _ c.requires.stands _ may _ terms,
    )

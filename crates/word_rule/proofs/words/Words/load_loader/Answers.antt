use Rattle.std.proofs.Common.{sym, ap, ◌∙◌, arith}
use Rattle.word_rule.proofs.Loader.{loads_loader}
use Rattle.word_rule.proofs.words.Words.load_loader.Goals as goal

pub load-requires : goal.load-requires
load-requires c = (ap (λ k. k.table) c.me.view_is ∙ (c.requires.table ∙ sym (ap (λ k. k.table) c.self.view_is)), omega (arith, c.self.invariant.1), loads_loader _ _ _ _ c.me.invariant.role)

use Rattle.std.proofs.Common.{sym, ap, ◌∙◌, arith}
use Rattle.word_rule.proofs.Loader.{grabs_loader}
use Rattle.word_rule.proofs.words.Words.take_loader.Goals as goal

pub fetch_or-found-requires : goal.fetch_or-found-requires
fetch_or-found-requires c =
    (ap (λ k. k.table) c.me.view_is ∙ (c.requires.table ∙ sym (ap (λ k. k.table) c.self.view_is)), omega (arith, c.self.invariant.1), grabs_loader _ _ _ _ c.me.invariant.role)

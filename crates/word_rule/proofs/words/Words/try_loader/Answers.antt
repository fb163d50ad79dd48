use Rattle.std.proofs.Common.{sym, ap, ◌∙◌, arith}
use Rattle.word_rule.proofs.Loader.{locks_by_bit}
use Rattle.word_rule.proofs.words.Words.try_loader.Goals as goal

pub compare_exchange-found-requires : goal.compare_exchange-found-requires
compare_exchange-found-requires c =
    (ap (λ k. k.table) c.me.view_is ∙ (c.requires.table ∙ sym (ap (λ k. k.table) c.self.view_is)), omega (arith, c.self.invariant.1), locks_by_bit _ _ _ _ c.me.invariant.role _ c.requires.unlocked)

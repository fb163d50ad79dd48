use Rattle.std.proofs.Common.{sym, ap, ◌∙◌, arith}
use Rattle.word_rule.specs.Logs.{is_gone}
use Rattle.word_rule.proofs.Entering.{reads_on}
use Rattle.word_rule.proofs.words.Words.another_reader.Goals as goal

pub split_seat-requires : goal.split_seat-requires
split_seat-requires c =
    (ap (λ k. k.table) c.me.view_is ∙ (c.requires ∙ sym (ap (λ k. k.table) c.self.view_is)), omega (arith, c.self.invariant.1), reads_on _ _ _ (ap is_gone c.me.invariant.role))

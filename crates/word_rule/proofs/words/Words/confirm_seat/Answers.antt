use Rattle.std.proofs.Common.{sym, ap, ◌∙◌, arith}
use Rattle.word_rule.proofs.Alone.{settles_loads}
use Rattle.word_rule.proofs.words.Words.confirm_seat.Goals as goal

pub load-requires : goal.load-requires
load-requires c = (c.requires ∙ sym (ap (λ k. k.table) c.self.view_is), omega (arith, c.self.invariant.1), settles_loads _ _ _ _)

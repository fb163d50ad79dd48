use Rattle.std.proofs.Common.{sym, ap, ◌∙◌, arith}
use Rattle.word_rule.proofs.Joins.{notes}
use Rattle.word_rule.proofs.words.Words.note.Goals as goal

pub split_seat-seat-requires : goal.split_seat-seat-requires
split_seat-seat-requires c =
    let some = c.in_ok-share.ensures.some in let same = c.me.invariant.shared in
    (ap (λ k. k.table) c.me.view_is ∙ (c.requires ∙ sym (ap (λ k. k.table) c.self.view_is)), omega (arith, c.self.invariant.1), notes _ _ _ c.me.invariant.role (omega (arith, some, same)))

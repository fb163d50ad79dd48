use Rattle.std.proofs.Common.{sym, ap, ◌∙◌, arith}
use Rattle.word_rule.proofs.Joins.{splits}
use Rattle.word_rule.proofs.words.Words.split_seat.Goals as goal

pub split_seat-requires : goal.split_seat-requires
split_seat-requires g c =
    let left = c.requires.about.0 in let give = c.requires.about.1 in let room = c.requires.room in (
      c.requires.table ∙ sym (ap (λ k. k.table) c.self.view_is),
      omega (arith, c.self.invariant.1),
      splits _ _ _ c.requires.caller _ _ (omega (arith, left, give, room.0)) (omega (arith, left, room.1)) (omega (arith, left, room.2)) c.requires.share,
    )

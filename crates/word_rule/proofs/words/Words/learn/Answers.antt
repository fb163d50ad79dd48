use Rattle.std.proofs.Common.{sym, ap, ◌∙◌, arith}
use Rattle.word_rule.proofs.Joins.{learns}
use Rattle.word_rule.proofs.words.Words.learn.Goals as goal

pub join_seat-requires : goal.join_seat-requires
join_seat-requires c = (
  ap (λ k. k.table) c.me.view_is ∙ (c.requires.table ∙ sym (ap (λ k. k.table) c.self.view_is)),
  ap (λ k. k.table) c.note.view_is ∙ (c.requires.note ∙ sym (ap (λ k. k.table) c.self.view_is)),
  c.note.invariant.bare,
  omega (arith, c.self.invariant.1),
  learns _ _ _ c.me.invariant.role _ _ c.note.invariant.note,
)

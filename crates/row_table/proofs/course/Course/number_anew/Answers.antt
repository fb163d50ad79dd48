use Rattle.std.proofs.Common.{◌∙◌}
use Rattle.row_table.proofs.CourseLaws.{numbered_course}
use Rattle.row_table.proofs.course.Course.number_anew.Goals as goal

pub invariant_of-self-in_err-note : goal.invariant_of-self-in_err-note
invariant_of-self-in_err-note c =
    let was = c.self.inside in
    let numbered = c.in_ok-number.ensures.numbered in
    numbered_course was.distinct was.states was.base was.here was.kept was.numbers.items was.transitions c.self.invariant c.number_of.new.self c.row.result.now c.in_ok-number.number _ numbered
    (λ stay. c.note.ensures c.number_of.new.self was.states stay c.self.invariant.states.here (numbered.within, numbered.is ∙ c.row.ensures))

pub invariant_of-self-2 : goal.invariant_of-self-2
invariant_of-self-2 c =
    let was = c.self.inside in
    let numbered = c.in_ok-number.ensures.numbered in
    numbered_course was.distinct was.states was.base was.here was.kept was.numbers.items was.transitions c.self.invariant c.number_of.new.self c.row.result.now c.in_ok-number.number _ numbered
    (λ stay. c.note.ensures c.number_of.new.self was.states stay c.self.invariant.states.here (numbered.within, numbered.is ∙ c.row.ensures))

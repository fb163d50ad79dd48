use Rattle.std.proofs.Common.{ap, ◌∙◌}
use Rattle.row_table.specs.Courses.{course, standing}
use Rattle.row_table.proofs.CourseLaws.{longer_course, stayed_course, went_course, went}
use Rattle.row_table.proofs.course.Course.work_out.Goals as goal

pub invariant_of-self : goal.invariant_of-self
invariant_of-self c =
    let was = c.self.inside in
    longer_course (course was.distinct was.states was.base was.here was.kept) was.numbers.items was.transitions c.number_of.new.self c.self.invariant c.number_of.ensures.longer

pub invariant_of-self-in_err-keep : goal.invariant_of-self-in_err-keep
invariant_of-self-in_err-keep c =
    let was = c.self.inside in
    let new = c.number_of.new.self in
    stayed_course was.distinct was.states was.base was.here was.kept was.numbers.items was.transitions c.self.invariant new c.args.instruction c.in_ok-to.to c.row-2.result.now c.row.result.now c.apply.new.self c.number_of.ensures.longer c.row-2.ensures c.row.ensures c.apply.ensures c.in_ok-to.ensures.number c.keep.new.self
    (c.keep.ensures new)

pub invariant_of-self-2 : goal.invariant_of-self-2
invariant_of-self-2 c =
    let was = c.self.inside in
    let new = c.number_of.new.self in
    went_course was.distinct was.states was.base was.here was.kept was.numbers.items was.transitions c.self.invariant new c.args.instruction c.in_ok-to.to c.row-2.result.now c.row.result.now c.apply.new.self c.number_of.ensures.longer c.row-2.ensures c.row.ensures c.apply.ensures c.in_ok-to.ensures.number c.keep.new.self
    (c.keep.ensures new)

pub returns-clause-standing : goal.returns-clause-standing
returns-clause-standing c =
    let was = c.self.inside in
    went was.distinct was.states was.base was.here was.kept was.numbers.items was.transitions c.self.invariant c.number_of.new.self c.args.instruction c.in_ok-to.to c.row-2.result.now c.row.result.now c.apply.new.self c.number_of.ensures.longer c.row-2.ensures c.row.ensures c.apply.ensures c.in_ok-to.ensures.number c.args.self.now
    (ap standing c.self.view_is ∙ c.make_room.ensures.standing)

use Rattle.row_table.specs.Courses.{CourseData, course}
use Rattle.row_table.proofs.CourseLaws.{longer_course, begun_course, begun}
use Rattle.row_table.proofs.course.Course.begin.Goals as goal

pub invariant_of-self-in_err-state : goal.invariant_of-self-in_err-state
invariant_of-self-in_err-state c =
    let was = c.self-2.inside in
    longer_course (course was.distinct was.states was.base was.here was.kept) was.numbers.items was.transitions c.number_of.new.self c.self-2.invariant c.number_of.ensures.longer

pub invariant_of-self-2 : goal.invariant_of-self-2
invariant_of-self-2 c =
    let was = c.self-2.inside in
    begun_course was.distinct was.states was.base was.here was.kept was.numbers.items was.transitions c.self-2.invariant c.number_of.new.self c.in_ok-state.state c.args.base.now c.number_of.ensures.longer c.in_ok-state.ensures.number

pub returns-clause-standing : goal.returns-clause-standing
returns-clause-standing c =
    let was = c.self-2.inside in
    let first = c.self.inside in
    let cleared : CourseData = course first.distinct first.states first.base first.here c.clear.new.self in
    begun was.distinct was.states c.number_of.new.self was.base was.here c.in_ok-state.state was.kept c.args.base.now c.make_room.new.self cleared c.self-2.view_is c.make_room.ensures.standing c.clear.ensures c.in_ok-state.ensures.number

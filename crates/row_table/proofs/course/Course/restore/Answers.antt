use Rattle.row_table.proofs.CourseLaws.{restored_course}
use Rattle.row_table.proofs.course.Course.restore.Goals as goal

pub invariant_of-self : goal.invariant_of-self
invariant_of-self c =
    let was = c.self.inside in
    restored_course was.distinct was.states was.base was.here was.kept was.numbers.items was.transitions c.self.invariant c.take_back-self-inside.result c.take_back-self-inside.new.self c.take_back-self-inside.ensures

use Rattle.unwind_step.proofs.PlainQueries.{are_right, stands_still}
use Rattle.unwind_step.proofs.laws.plain_answers_are_right.Goals as goal

pub returns-clause-still : goal.returns-clause-still
returns-clause-still c = stands_still

pub returns-clause-right : goal.returns-clause-right
returns-clause-right c = are_right

use Rattle.check_run.proofs.Endings.{check_complete, check_exact, check_write_told}
use Rattle.check_run.proofs.running.check_run.Goals as goal

pub returns-clause-complete : goal.returns-clause-complete
returns-clause-complete g c = λ none. check_complete c.bytes_have_one_answer.ensures _ none _ _ c.end_of.result c.end_of.ensures.ends

pub returns-clause-exact : goal.returns-clause-exact
returns-clause-exact g c = λ none. check_exact c.bytes_have_one_answer.ensures _ none _ c.texts_have_one_verdict.ensures _ c.end_of.result c.end_of.ensures.ends

pub returns-clause-writes : goal.returns-clause-writes
returns-clause-writes g c = λ other. c.end_of.ensures.writes (λ says. other (check_write_told c.end_of.result says))

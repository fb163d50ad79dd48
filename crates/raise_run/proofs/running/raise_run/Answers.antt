use Rattle.raise_run.proofs.Endings.{raise_complete, raise_write_told}
use Rattle.raise_run.proofs.running.raise_run.Goals as goal

pub returns-clause-complete : goal.returns-clause-complete
returns-clause-complete g c = λ request is. raise_complete c.bytes_have_one_answer.ensures _ request is _ _ c.end_of.result c.end_of.ensures.ends

pub returns-clause-writes : goal.returns-clause-writes
returns-clause-writes g c = λ other. c.end_of.ensures.writes (λ says. other (raise_write_told c.end_of.result says))

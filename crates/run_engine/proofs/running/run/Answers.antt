use Rattle.run_engine.proofs.Endings.{ends_complete, ends_complete_generated, write_told}
use Rattle.run_engine.proofs.running.run.Goals as goal

pub returns-clause-complete : goal.returns-clause-complete
returns-clause-complete g c = ends_complete c.bytes_have_one_answer.ensures _ _ _ c.end_of.result c.end_of.ensures.ends

pub returns-clause-complete_generated : goal.returns-clause-complete_generated
returns-clause-complete_generated g c = λ count is writes. ends_complete_generated _ _ _ count c.end_of.result c.end_of.ensures.ends is writes

pub returns-clause-writes : goal.returns-clause-writes
returns-clause-writes g c = λ other. c.end_of.ensures.writes (λ says. other (write_told c.end_of.result says))

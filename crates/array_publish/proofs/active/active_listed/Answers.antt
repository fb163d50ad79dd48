use Rattle.array_publish.proofs.Works.{loads_then}
use Rattle.array_publish.proofs.active.active_listed.Goals as goal

pub returns-clause-loads : goal.returns-clause-loads
returns-clause-loads c = loads_then _ _ _ (loads_then _ _ _ c.active_word-first.ensures.loads c.active_word-last.ensures.loads) c.active_word-payload.ensures.loads

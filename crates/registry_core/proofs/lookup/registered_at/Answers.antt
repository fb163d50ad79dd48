use Rattle.registry_core.proofs.Asking.{queries_none, queries_then, tries_answer}
use Rattle.registry_core.proofs.lookup.registered_at.Goals as goal

pub loop-init : goal.loop-init
loop-init g c = record { queries = queries_none _ _; table = c.requires.table }

pub returns-in-Ok-clause-queries : goal.returns-in-Ok-clause-queries
returns-in-Ok-clause-queries g c =
    queries_then _ _ _ _ _ c.loop.invariant.queries (tries_answer _ _ _ _ _ c.in-Ok.ensures.tries)

use Rattle.std.proofs.Common.{refl}
use Rattle.registry_core.proofs.Following.{query_received}
use Rattle.registry_core.proofs.Asking.{queries_both}
use Rattle.registry_core.proofs.registry.Registry.find_waiting.Goals as goal

pub returns-in-Miss-clause-queries : goal.returns-in-Miss-clause-queries
returns-in-Miss-clause-queries g c =
    rw (← c.self.view_is) (queries_both c.receipts_stay.ensures _ _ _ _ _ _ c.registered_at-registered.ensures.queries c.loaded_at.ensures.queries)

pub returns-in-Miss-clause-calls : goal.returns-in-Miss-clause-calls
returns-in-Miss-clause-calls g c = (
  (g.L.Looker.known c.registered_at-registered.new.me),
  query_received _ _ _ _ _ _ c.registered_at-registered.ensures.queries,
  ((g.L.Looker.known c.loaded_at.new.me), query_received _ _ _ _ _ _ c.loaded_at.ensures.queries, refl),
)

pub returns-in-Hit-clause-calls : goal.returns-in-Hit-clause-calls
returns-in-Hit-clause-calls g c = (
  (g.L.Looker.known c.registered_at-registered.new.me),
  query_received _ _ _ _ _ _ c.registered_at-registered.ensures.queries,
  refl,
)

use Rattle.std.proofs.Common.{◌≡◌, []}
use Rattle.registry_core.specs.Queries.{Queries}
use Rattle.registry_core.proofs.lookup.loaded_at.Given as goal

abbrev pub invariant-loop : goal.invariant-loop
invariant-loop g l = record { queries : Queries l.words.terms [] (g.L.Looker.known l.fn.me) (g.L.Looker.known l.me); table : (g.L.Looker.known l.me).table ≡ l.words.table }

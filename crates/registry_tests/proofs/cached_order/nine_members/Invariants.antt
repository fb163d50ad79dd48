use Rattle.std.proofs.Common.{◌≡◌}
use Rattle.frame_cache.specs.Cached.{FitsCaller}
use Rattle.word_rule.specs.Callers.{IsIdle}
use Rattle.registry_tests.proofs.cached_order.nine_members.Given as goal

abbrev pub invariant-loop-number : goal.invariant-loop-number
invariant-loop-number g l = record { table : l.a.table ≡ l.fn.a.table; idle : IsIdle l.a.log }

abbrev pub invariant-loop-number-2 : goal.invariant-loop-number-2
invariant-loop-number-2 g l = record { table : l.b.table ≡ l.fn.b.table; fits : FitsCaller l.cache l.b.log }

use Rattle.std.proofs.Common.{◌≡◌}
use Rattle.version_locks.specs.Locking.{Tries}
use Rattle.version_locks.proofs.locks.lock.Given as goal

abbrev pub invariant-loop : goal.invariant-loop
invariant-loop g l = record { tries : Tries l.fn.lock l.fn.me l.me; table : l.me.table ≡ l.words.table }

use Rattle.std.proofs.Common.{◌≡◌}
use Rattle.lock_tests.proofs.locks.sleep_on_it.Given as goal

abbrev pub invariant-loop-wake : goal.invariant-loop-wake
invariant-loop-wake g l = l.me.table ≡ l.words.table

use Rattle.std.proofs.Common.{◌≡◌}
use Rattle.word_rule.specs.CallerData.{surplus}
use Rattle.lock_tests.proofs.locks.someone_sleeps.Given as goal

abbrev pub invariant-loop-look : goal.invariant-loop-look
invariant-loop-look l = record { table : l.me.table ≡ l.fn.me.table; here : l.fn.me.table ≡ l.words.table; loader : l.me.log.loader ≡ l.fn.me.log.loader; credit : surplus l.me ≡ surplus l.fn.me }

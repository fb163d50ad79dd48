use Rattle.std.proofs.Common.{◌≡◌}
use Rattle.word_rule.specs.Callers.{IsIdle}
use Rattle.lock_tests.proofs.shares.handed_on.Given as goal

abbrev pub invariant-loop-turn : goal.invariant-loop-turn
invariant-loop-turn l = record { table : l.me.table ≡ l.words.table; idle : IsIdle l.me.log }

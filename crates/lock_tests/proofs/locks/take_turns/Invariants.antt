use Rattle.std.proofs.Common.{◌≡◌, ◌+◌, ◌≤◌}
use Rattle.word_rule.specs.CallerData.{surplus}
use Rattle.word_rule.specs.Callers.{IsIdle}
use Rattle.lock_tests.proofs.locks.take_turns.Given as goal

abbrev pub invariant-loop-turn : goal.invariant-loop-turn
invariant-loop-turn g l = record { table : l.me.table ≡ l.fn.me.table; idle : IsIdle l.me.log; room : 100 ≤ surplus l.me + l.turn }

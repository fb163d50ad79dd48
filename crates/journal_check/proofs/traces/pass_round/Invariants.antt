use Rattle.std.proofs.Common.{ℕ, Result, drop, map}
use Rattle.std.specs.List.{flat_map}
use Rattle.journal_check.specs.Passing.{IsPassed}
use Rattle.journal_check.specs.declared.traces.Stopped.{Stopped}
use Rattle.journal_check.proofs.traces.pass_round.Given as goal

-- what comes of the threads that are left comes of all
abbrev pub invariant-loop-thread : goal.invariant-loop-thread
invariant-loop-thread l =
    (r : Result ℕ Stopped) → IsPassed l.script (flat_map (λ xs. xs) (map (λ thread. thread.items) (drop l.thread-index l.round))) l.next r
    → IsPassed l.script (flat_map (λ xs. xs) (map (λ thread. thread.items) l.round)) l.line r

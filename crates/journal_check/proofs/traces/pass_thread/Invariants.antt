use Rattle.std.proofs.Common.{ℕ, Result, drop}
use Rattle.journal_check.specs.Passing.{IsPassed}
use Rattle.journal_check.specs.declared.traces.Stopped.{Stopped}
use Rattle.journal_check.proofs.traces.pass_thread.Given as goal

-- what comes of the answers that are left comes of all
abbrev pub invariant-loop-answer : goal.invariant-loop-answer
invariant-loop-answer l =
    (r : Result ℕ Stopped) → IsPassed l.script (drop l.answer-index l.answers) l.next r → IsPassed l.script l.answers l.line r

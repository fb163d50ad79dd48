use Rattle.std.proofs.Common.{ℕ, Result, drop, map}
use Rattle.std.specs.List.{flat_map}
use Rattle.journal_check.specs.Passing.{IsPassed}
use Rattle.journal_check.specs.TextFlaws.{flattened}
use Rattle.journal_check.specs.declared.traces.Stopped.{Stopped}
use Rattle.journal_check.proofs.traces.pass_rounds.Given as goal

-- what comes of the rounds that are left comes of all
abbrev pub invariant-loop-round : goal.invariant-loop-round
invariant-loop-round l =
    (r : Result ℕ Stopped) → IsPassed l.script (flat_map (λ round. flattened round) (map (λ round. map (λ thread. thread.items) round.items) (drop l.round-index l.rounds))) l.next r
    → IsPassed l.script (flat_map (λ round. flattened round) (map (λ round. map (λ thread. thread.items) round.items) l.rounds)) 1 r

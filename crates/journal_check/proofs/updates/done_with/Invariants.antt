use Rattle.std.proofs.Common.{◌≡◌, ◌+◌, map, drop}
use Rattle.std.specs.List.{sum_by, count_by}
use Rattle.journal_check.specs.Telling.{is_update}
use Rattle.journal_check.proofs.updates.done_with.Given as goal

-- with those of the threads that are left
abbrev pub invariant-loop-thread : goal.invariant-loop-thread
invariant-loop-thread l =
    l.after + sum_by (count_by is_update) (map (λ thread. thread.items) (drop l.thread-index l.round))
    ≡ l.done + sum_by (count_by is_update) (map (λ thread. thread.items) l.round)

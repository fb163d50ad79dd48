use Rattle.std.proofs.Common.{◌≡◌, map, drop}
use Rattle.journal_check.specs.Telling.{tell_thread, told_after}
use Rattle.journal_check.proofs.teller.Teller.tell_round.Given as goal

-- with the threads that are left
abbrev pub invariant-loop-thread : goal.invariant-loop-thread
invariant-loop-thread l =
    told_after (tell_thread l.images l.bounds) l.self (map (λ thread. thread.items) (drop l.thread-index l.round))
    ≡ told_after (tell_thread l.images l.bounds) l.initial.self (map (λ thread. thread.items) l.round)

use Rattle.std.proofs.Common.{◌≡◌, drop}
use Rattle.journal_check.specs.Telling.{tell_answer, told_after}
use Rattle.journal_check.proofs.teller.Teller.tell_thread.Given as goal

-- with the answers that are left
abbrev pub invariant-loop-answer : goal.invariant-loop-answer
invariant-loop-answer l =
    told_after (tell_answer l.images l.bounds) l.self (drop l.answer-index l.answers)
    ≡ told_after (tell_answer l.images l.bounds) l.initial.self l.answers

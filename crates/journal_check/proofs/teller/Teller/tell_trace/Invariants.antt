use Rattle.std.proofs.Common.{◌≡◌, [], ◌∷◌, ◌++◌, map, drop}
use Rattle.reg_model.specs.Receipt.{receipts_of_place}
use Rattle.journal_check.specs.Telling.{tell_line, told_after}
use Rattle.journal_check.proofs.teller.Teller.tell_trace.Given as goal

-- with the lines that are left
abbrev pub invariant-loop-line : goal.invariant-loop-line
invariant-loop-line l =
    told_after (tell_line l.bounds) l.self (map (λ line. receipts_of_place line.look line.place) (drop l.line-index l.trace.frames) ++ [] ∷ [])
    ≡ told_after (tell_line l.bounds) l.initial.self (map (λ line. receipts_of_place line.look line.place) l.trace.frames ++ [] ∷ [])

use Rattle.std.proofs.Common.{◌≡◌}
use Rattle.reg_model.specs.Numbers.{history_of}
use Rattle.receipt_check.specs.Flaws.{told_receipts}
use Rattle.receipt_check.proofs.history.history_in.Given as goal

-- the updates of the places so far
abbrev pub invariant-loop-place : goal.invariant-loop-place
invariant-loop-place l = l.history.items ≡ history_of (told_receipts l.told) l.place-index

use Rattle.std.proofs.Common.{take}
use Rattle.receipt_check.specs.Flaws.{told_receipts}
use Rattle.receipt_check.specs.Sweep.{AreByNumber}
use Rattle.receipt_check.proofs.history.places_of.Given as goal

-- the updates of the receipts that were passed
abbrev pub invariant-loop-row : goal.invariant-loop-row
invariant-loop-row l = AreByNumber (told_receipts (take l.row-index l.told)) l.updates l.places.items

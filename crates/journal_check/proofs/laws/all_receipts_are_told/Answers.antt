use Rattle.std.proofs.Common.{[]}
use Rattle.journal_check.proofs.Receipts.{rounds_add}
use Rattle.journal_check.proofs.laws.all_receipts_are_told.Goals as goal

pub returns : goal.returns
returns c script journal = rounds_add script.images 1 0 (record { told = []; line = 1; seen = 0 }) journal.rounds

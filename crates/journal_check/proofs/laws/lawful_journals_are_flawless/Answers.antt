use Rattle.journal_check.proofs.Flawless.{flawless}
use Rattle.journal_check.proofs.laws.lawful_journals_are_flawless.Goals as goal

pub returns : goal.returns
returns c = flawless

use Rattle.journal_check.proofs.Strict.{lawful_from}
use Rattle.journal_check.proofs.laws.flawless_journals_are_lawful.Goals as goal

pub returns : goal.returns
returns c script journal answered unfolded free = lawful_from script journal free answered unfolded

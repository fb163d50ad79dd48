use Rattle.journal_check.proofs.Verdicts.{same_verdict, no_verdict}
use Rattle.journal_check.proofs.laws.one_verdict.Goals as goal

pub returns-clause-one : goal.returns-clause-one
returns-clause-one c = same_verdict

pub returns-clause-none : goal.returns-clause-none
returns-clause-none c = no_verdict

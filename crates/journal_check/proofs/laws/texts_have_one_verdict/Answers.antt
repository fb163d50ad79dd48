use Rattle.journal_check.proofs.TextVerdicts.{one_verdict_on}
use Rattle.journal_check.proofs.laws.texts_have_one_verdict.Goals as goal

pub returns : goal.returns
returns c script text one other run is as_well = one_verdict_on script text run one other is as_well

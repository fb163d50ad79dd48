use Rattle.unwind_step.proofs.OneOutcome as lemmas
use Rattle.unwind_step.proofs.laws.one_outcome.Goals as goal

pub returns : goal.returns
returns c = lemmas.one_outcome c.one_answer.ensures

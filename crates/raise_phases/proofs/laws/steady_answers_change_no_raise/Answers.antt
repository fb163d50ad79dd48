use Rattle.raise_phases.proofs.Unchanged.{unchanged}
use Rattle.raise_phases.proofs.laws.steady_answers_change_no_raise.Goals as goal

pub returns : goal.returns
returns c = unchanged

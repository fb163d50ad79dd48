use Rattle.raise_phases.proofs.Tables.{one_verdict}
use Rattle.raise_phases.proofs.laws.tables_have_one_verdict.Goals as goal

pub returns : goal.returns
returns c = one_verdict

use Rattle.trace_check.proofs.Departing.{departs_once}
use Rattle.trace_check.proofs.laws.traces_depart_once.Goals as goal

pub returns : goal.returns
returns c = departs_once

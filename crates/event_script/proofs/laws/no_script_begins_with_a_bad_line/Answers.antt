use Rattle.event_script.proofs.Begins.{none_begins}
use Rattle.event_script.proofs.laws.no_script_begins_with_a_bad_line.Goals as goal

pub returns : goal.returns
returns c = none_begins

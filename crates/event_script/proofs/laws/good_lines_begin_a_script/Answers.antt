use Rattle.event_script.proofs.Begins.{some_begins}
use Rattle.event_script.proofs.laws.good_lines_begin_a_script.Goals as goal

pub returns : goal.returns
returns c = some_begins

use Rattle.event_script.proofs.FirstBad.{one_reading}
use Rattle.event_script.proofs.laws.bytes_have_one_answer.Goals as goal

pub returns : goal.returns
returns c = one_reading

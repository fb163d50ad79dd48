use Rattle.event_script.proofs.Complete.{one_script}
use Rattle.event_script.proofs.laws.bytes_spell_one_script.Goals as goal

pub returns : goal.returns
returns c = one_script

use Rattle.sound_records.proofs.Agreement.{agrees}
use Rattle.sound_records.proofs.agrees_with_read.Goals as goal

pub returns : goal.returns
returns c = agrees

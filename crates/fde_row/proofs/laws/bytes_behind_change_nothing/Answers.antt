use Rattle.fde_row.proofs.Behind.{stays_the_same}
use Rattle.fde_row.proofs.laws.bytes_behind_change_nothing.Goals as goal

pub returns : goal.returns
returns c = stays_the_same

use Rattle.fde_writer.proofs.Telling.{given_hit}
use Rattle.fde_writer.proofs.laws.hits_are_given.Goals as goal

pub returns : goal.returns
returns c = given_hit c.found_fdes_are_given.ensures

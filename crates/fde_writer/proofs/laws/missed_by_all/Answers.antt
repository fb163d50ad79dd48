use Rattle.fde_writer.proofs.Telling.{missed}
use Rattle.fde_writer.proofs.laws.missed_by_all.Goals as goal

pub returns : goal.returns
returns c = missed c.misses_are_misses.ensures.registered c.misses_are_misses.ensures.loaded

use Rattle.unwind_step.proofs.FoundFdes.{found_begins_below}
use Rattle.unwind_step.proofs.lookup.fde_of.Goals as goal

pub returns-clause-covers : goal.returns-clause-covers
returns-clause-covers c = found_begins_below _ _ _ c.fde_at.ensures.entry

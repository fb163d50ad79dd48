use Rattle.version_locks.proofs.Tries.{tries_marked}
use Rattle.version_locks.proofs.locks.mark_again.Goals as goal

pub returns : goal.returns
returns c = tries_marked _ _ _ _ c.mark_sleeping.result c.mark_sleeping.ensures.ok c.mark_sleeping.ensures.err

use Rattle.fence_move.proofs.spines.+lock_spine.Given as goal

abbrev pub decreases-lock_spine : goal.decreases-lock_spine
decreases-lock_spine g l = l.level

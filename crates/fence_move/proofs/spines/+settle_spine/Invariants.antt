use Rattle.fence_move.proofs.spines.+settle_spine.Given as goal

abbrev pub decreases-settle_spine : goal.decreases-settle_spine
decreases-settle_spine g l = l.level

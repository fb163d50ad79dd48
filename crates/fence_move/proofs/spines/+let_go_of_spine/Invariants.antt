use Rattle.fence_move.proofs.spines.+let_go_of_spine.Given as goal

abbrev pub decreases-let_go_of_spine : goal.decreases-let_go_of_spine
decreases-let_go_of_spine g l = l.level

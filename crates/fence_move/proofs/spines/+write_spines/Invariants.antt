use Rattle.fence_move.proofs.spines.+write_spines.Given as goal

abbrev pub decreases-write_spines : goal.decreases-write_spines
decreases-write_spines l = l.level

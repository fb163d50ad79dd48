use Rattle.model_tests.proofs.plain_tree.+collect.Given as goal

abbrev pub decreases-collect : goal.decreases-collect
decreases-collect g l = l.levels

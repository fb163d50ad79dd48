use Rattle.std.proofs.Common.{length}
use Rattle.model_tests.proofs.plain_tree.+cuts.Given as goal

abbrev pub decreases-cuts : goal.decreases-cuts
decreases-cuts l = length l.pairs.now

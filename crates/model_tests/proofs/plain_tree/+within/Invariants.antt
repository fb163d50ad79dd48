use Rattle.std.proofs.Common.{length}
use Rattle.model_tests.proofs.plain_tree.+within.Given as goal

abbrev pub decreases-within : goal.decreases-within
decreases-within l = length l.entries.now

use Rattle.std.proofs.Common.{length}
use Rattle.model_tests.proofs.plain_tree.+holds.Given as goal

abbrev pub decreases-holds : goal.decreases-holds
decreases-holds l = length l.entries.now

use Rattle.std.proofs.Common.{length}
use Rattle.btree_change.proofs.path.Path.+change_all.Given as goal

abbrev pub decreases-change_all : goal.decreases-change_all
decreases-change_all l = length l.self.now

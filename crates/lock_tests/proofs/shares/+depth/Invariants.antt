use Rattle.lock_tests.proofs.shares.+depth.Given as goal

abbrev pub decreases-depth : goal.decreases-depth
decreases-depth l = l.most

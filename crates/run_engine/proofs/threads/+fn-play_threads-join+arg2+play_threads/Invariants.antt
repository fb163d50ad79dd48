use Rattle.std.proofs.Common.{◌+◌, ◌*◌, length}
use Rattle.run_engine.proofs.threads.+fn-play_threads-join+arg2+play_threads.Given as goal

abbrev pub decreases-join+arg2 : goal.decreases-join+arg2
decreases-join+arg2 g l = 2 * length l.before.now + 1

abbrev pub decreases-play_threads : goal.decreases-play_threads
decreases-play_threads g l = 2 * length l.threads.now

use Rattle.std.proofs.Common.{◌≡◌}
use Rattle.run_engine.specs.Kept.{thread_told}
use Rattle.run_engine.proofs.telling.tell_thread.Given as goal

-- the answers so far are told
abbrev pub invariant-loop-kept : goal.invariant-loop-kept
invariant-loop-kept l = l.answers.items ≡ thread_told l.images l.events l.yielded

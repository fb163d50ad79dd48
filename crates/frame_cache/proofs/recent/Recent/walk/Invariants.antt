use Rattle.frame_cache.proofs.Seeking.{ArePassed}
use Rattle.frame_cache.proofs.recent.Recent.walk.Given as goal

-- no entry before the place contains the address
abbrev pub invariant-loop-place : goal.invariant-loop-place
invariant-loop-place l = ArePassed l.pc l.place l.self

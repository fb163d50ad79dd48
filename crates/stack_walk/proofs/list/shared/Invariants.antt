use Rattle.std.proofs.Common.{◌≡◌, take}
use Rattle.stack_walk.proofs.list.shared.Given as goal

-- the modules so far are shared
abbrev pub invariant-loop-module : goal.invariant-loop-module
invariant-loop-module g l = l.list.items ≡ take l.module-index l.modules

use Rattle.std.proofs.Common.{◌≡◌, ℕ, length}
use Rattle.stack_walk.specs.Modules.{AreModulesFrom, module_at}
use Rattle.stack_walk.proofs.list.module_of.Given as goal

-- the module of the address stands among those that are left
abbrev pub invariant-loop-left : goal.invariant-loop-left
invariant-loop-left g l = (low : ℕ) × AreModulesFrom low l.left × (module_at l.pc l.left ≡ module_at l.pc l.modules)

abbrev pub decreases-loop-left : goal.decreases-loop-left
decreases-loop-left g l = length l.left

use Rattle.std.proofs.Common.{◌≡◌}
use Rattle.reg_model.specs.State.{State}
use Rattle.receipt_check.specs.Sweep.{IsPresent}
use Rattle.receipt_check.proofs.present.Present.go_on.Given as goal

-- so many updates were made, and the state is that of the moment
abbrev pub invariant-loop-made : goal.invariant-loop-made
invariant-loop-made l = record {
  made : l.self.made ≡ l.made;
  present : (start : State) → IsPresent start l.history l.fn.self → IsPresent start l.history l.self;
}

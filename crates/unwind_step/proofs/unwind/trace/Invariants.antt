use Rattle.std.proofs.Common.{◌≡◌, ◌-◌, All, length}
use Rattle.reg_model.specs.Receipt.{IsPlace}
use Rattle.unwind_step.specs.Finders.{GoesThrough}
use Rattle.unwind_step.specs.Walks.{IsUnasked}
use Rattle.unwind_step.proofs.unwind.trace.Given as goal

-- the walk goes on from the recorded frame, and the finder went through its lines
abbrev pub invariant-loop-end : goal.invariant-loop-end
invariant-loop-end g l = record {
  unasked : IsUnasked l.walk;
  sections : l.walk.sections ≡ l.sections;
  memory : l.walk.memory ≡ l.memory;
  regs : l.walk.regs ≡ l.regs;
  goes : GoesThrough g.F.Finder.answers l.fn.finder l.walk.lines l.finder;
  halves : All (λ line. IsPlace line.place) l.walk.lines;
  bound : g.F.Finder.bound l.finder ≡ g.F.Finder.bound l.fn.finder;
}

abbrev pub decreases-loop-end : goal.decreases-loop-end
decreases-loop-end g l = 256 - length l.walk.lines

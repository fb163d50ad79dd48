use Rattle.std.proofs.Common.{◌≡◌, ◌-◌, ◌≤◌, All, length, vec_capacity}
use Rattle.reg_model.specs.Receipt.{IsPlace}
use Rattle.unwind_step.specs.Finders.{GoesThrough}
use Rattle.unwind_step.specs.Walks.{IsUnasked}
use Rattle.raise_phases.specs.Raising.{lines_of}
use Rattle.raise_phases.proofs.Searches.{IsJudged, IsPassed}
use Rattle.raise_phases.proofs.phases.search.Given as goal

-- the walk goes on, each frame so far let pass, and the finder went through their lines
abbrev pub invariant-frames : goal.invariant-frames
invariant-frames g l = record {
  unasked : IsUnasked l.walk;
  sections : l.walk.sections ≡ l.tables.sections.now;
  memory : l.walk.memory ≡ l.tables.memory.now;
  regs : l.walk.regs ≡ l.fn.walk.regs;
  lines : l.walk.lines ≡ lines_of l.phases.items;
  are_judged : All (IsJudged l.tables.sections.now l.tables.memory.now l.tables.kind) l.phases.items;
  passed : All (IsPassed l.tables.sections.now l.tables.memory.now l.tables.kind) l.phases.items;
  goes : GoesThrough g.F.Finder.answers l.fn.finder l.walk.lines l.finder;
  halves : All (λ line. IsPlace line.place) l.walk.lines;
  bound : g.F.Finder.bound l.finder ≡ g.F.Finder.bound l.fn.finder;
  room : 256 ≤ vec_capacity l.phases;
}

abbrev pub decreases-frames : goal.decreases-frames
decreases-frames g l = 256 - length l.walk.lines

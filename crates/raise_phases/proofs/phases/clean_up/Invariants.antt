use Rattle.std.proofs.Common.{◌≡◌, ◌-◌, ◌≤◌, All, take, length, vec_len, vec_capacity}
use Rattle.std.specs.List.{AllZip}
use Rattle.reg_model.specs.Receipt.{IsPlace}
use Rattle.unwind_step.specs.Finders.{GoesThrough}
use Rattle.raise_phases.specs.Raising.{lines_of, Repeats}
use Rattle.raise_phases.proofs.phases.clean_up.Given as goal

-- the frames so far are repeated, and the finder went through their lines
abbrev pub invariant-frames : goal.invariant-frames
invariant-frames g l = record {
  repeats : AllZip Repeats (take (vec_len l.phases) l.search) l.phases.items;
  goes : GoesThrough g.F.Finder.answers l.fn.finder (lines_of l.phases.items) l.finder;
  halves : All (λ line. IsPlace line.place) (lines_of l.phases.items);
  bound : g.F.Finder.bound l.finder ≡ g.F.Finder.bound l.fn.finder;
  room : 256 ≤ vec_capacity l.phases;
  within : vec_len l.phases ≤ length l.search;
}

abbrev pub decreases-frames : goal.decreases-frames
decreases-frames g l = length l.search - vec_len l.phases

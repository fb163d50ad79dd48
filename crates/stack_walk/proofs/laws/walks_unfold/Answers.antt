use Rattle.std.proofs.Common.{length}
use Rattle.unwind_step.specs.Backtrace.{innermost}
use Rattle.stack_walk.proofs.Unfolding.{unfolds_from}
use Rattle.stack_walk.proofs.laws.walks_unfold.Goals as goal

pub returns : goal.returns
returns c = λ ms memory regs shown end stands trace walks tells ended few full.
    let u = unfolds_from ms memory (length trace.frames) end trace.end ended stands full (innermost regs) shown trace.frames walks tells in
    record {
      frames = u.frames;
      are_frames = record { first = u.first; shown = u.shown; callers = u.callers };
      ends = λ i frame line last at there. u.ends i frame line last at there;
      count = few;
    }

use Rattle.std.proofs.Common.{arith}
use Rattle.unwind_step.specs.declared.backtrace.End.TheVariants.{Long}
use Rattle.unwind_step.proofs.Walking.{ends_here, goes_up}
use Rattle.unwind_step.proofs.walk.Walk.up.Goals as goal

pub returns-in-Err-clause-ends : goal.returns-in-Err-clause-ends
returns-in-Err-clause-ends c = ends_here _ _ c.self.view_is c.requires _ _ (omega (arith, c.len-count.ensures, c.self.inside.lines.ok.0)) c.index.ensures _ (c.in-Err.ensures.end _)

pub returns-in-Ok-clause-ends : goal.returns-in-Ok-clause-ends
returns-in-Ok-clause-ends c = ends_here _ _ c.self.view_is c.requires _ _ (omega (arith, c.len-count.ensures, c.self.inside.lines.ok.0)) c.index.ensures Long (omega (arith, c.if-count-eq-MOST_FRAMES.true, c.len-count.ensures, c.self.inside.lines.ok.0), (c.in-Ok.field-0, c.in-Ok.ensures.caller))

pub returns-in-Ok-2-clause-caller : goal.returns-in-Ok-2-clause-caller
returns-in-Ok-2-clause-caller c = goes_up _ _ c.self.view_is c.requires _ _ (omega (arith, c.len-count.ensures, c.self.inside.lines.ok.0)) c.index.ensures _ c.in-Ok.ensures.caller (λ full. c.if-count-eq-MOST_FRAMES.false (omega (arith, full, c.len-count.ensures, c.self.inside.lines.ok.0)))

use Rattle.std.proofs.Common.{arith}
use Rattle.trace_check.proofs.Departing.{line_answer, whole_answer, end_answer}
use Rattle.trace_check.proofs.checking.departure.Goals as goal

pub returns-in-Err-clause-unfolds : goal.returns-in-Err-clause-unfolds
returns-in-Err-clause-unfolds c = (line_answer c.args.sections.now c.args.memory.now c.args.regs.now _ _ c.trace.view_is _ c.deref.ensures.value c.in-Err.line c.in-Err.ensures.leaves).0

pub returns-in-Err-clause-departs : goal.returns-in-Err-clause-departs
returns-in-Err-clause-departs c = (line_answer c.args.sections.now c.args.memory.now c.args.regs.now _ _ c.trace.view_is _ c.deref.ensures.value c.in-Err.line c.in-Err.ensures.leaves).1

pub returns-then-tells-clause-unfolds : goal.returns-then-tells-clause-unfolds
returns-then-tells-clause-unfolds c = (whole_answer c.args.sections.now c.args.memory.now c.args.regs.now _ _ c.trace.view_is _ c.deref.ensures.value c.in-Ok.next c.in-Ok.ensures.reached c.if-tells.ensures).0

pub returns-then-tells-clause-departs : goal.returns-then-tells-clause-departs
returns-then-tells-clause-departs c = (whole_answer c.args.sections.now c.args.memory.now c.args.regs.now _ _ c.trace.view_is _ c.deref.ensures.value c.in-Ok.next c.in-Ok.ensures.reached c.if-tells.ensures).1

pub returns-else-tells-clause-unfolds : goal.returns-else-tells-clause-unfolds
returns-else-tells-clause-unfolds c = (end_answer c.args.sections.now c.args.memory.now c.args.regs.now _ _ c.trace.view_is _ c.deref.ensures.value c.in-Ok.next c.in-Ok.ensures.reached c.if-tells.ensures c.len.result (omega (arith, c.len.ensures, c.trace.inside.frames.ok.0))).0

pub returns-else-tells-clause-departs : goal.returns-else-tells-clause-departs
returns-else-tells-clause-departs c = (end_answer c.args.sections.now c.args.memory.now c.args.regs.now _ _ c.trace.view_is _ c.deref.ensures.value c.in-Ok.next c.in-Ok.ensures.reached c.if-tells.ensures c.len.result (omega (arith, c.len.ensures, c.trace.inside.frames.ok.0))).1

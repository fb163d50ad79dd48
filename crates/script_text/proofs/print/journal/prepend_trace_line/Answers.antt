use Rattle.std.proofs.Common.{◌≡◌, ℕ, ◌<◌, ◌++◌, length, List, [], get_or, ap, subst, sym, ◌∙◌, arith}
use Rattle.unwind_step.specs.Backtrace.{TraceData}
use Rattle.unwind_step.specs.declared.backtrace.FrameLine.{FrameLine}
use Rattle.script_text.specs.Text.{frame_line, end_line, trace_lines}
use Rattle.script_text.proofs.TraceLines.{frame_of_trace, end_of_trace}
use Rattle.script_text.proofs.print.journal.prepend_trace_line.Goals as goal

pub returns-then-line-len-clause-text : goal.returns-then-line-len-clause-text
returns-then-line-len-clause-text c =
    let line = c.args.line in
    let old = c.args.end.now in
    let frame = c.index.result.now in
    let trace : TraceData = record { frames = c.trace.inside.frames.items; end = c.trace.inside.end } in
    let here : get_or trace.frames line frame ≡ frame = sym c.index.ensures in
    let is : get_or (trace_lines trace) line [] ≡ frame_line line frame = frame_of_trace trace line frame (omega (arith)) ∙ ap (λ (f : FrameLine). frame_line line f) here in
    subst (λ (t : TraceData). c.prepend_frame.new.end ≡ get_or (trace_lines t) line [] ++ old) c.trace.view_is
    (c.prepend_frame.ensures.text ∙ ap (λ (x : List ℕ). x ++ old) (sym is))

pub returns-else-line-len-clause-text : goal.returns-else-line-len-clause-text
returns-else-line-len-clause-text c =
    let line = c.args.line in
    let old = c.args.end.now in
    let trace : TraceData = record { frames = c.trace.inside.frames.items; end = c.trace.inside.end } in
    let within : line < length (trace_lines trace) = subst (λ (t : TraceData). line < length (trace_lines t)) (sym c.trace.view_is) c.requires.line in
    let is : get_or (trace_lines trace) line [] ≡ end_line trace.end = end_of_trace trace line (omega (arith)) within in
    subst (λ (t : TraceData). c.prepend_end_line.new.end ≡ get_or (trace_lines t) line [] ++ old) c.trace.view_is
    (c.prepend_end_line.ensures.text ∙ ap (λ (x : List ℕ). x ++ old) (sym is))

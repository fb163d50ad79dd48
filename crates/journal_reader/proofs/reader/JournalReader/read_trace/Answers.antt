use Rattle.std.proofs.Common.{◌≡◌, ℕ, List, [], ◌∷◌, ◌++◌, length, map, ap, sym, subst, ◌∙◌, arith}
use Rattle.std.specs.List.{AllByRecursion}
use Rattle.unwind_step.specs.declared.backtrace.FrameLine.{FrameLine}
use Rattle.script_text.specs.Fields.{pieces}
use Rattle.script_text.specs.Text.{frame_lines}
use Rattle.journal_reader.specs.Told.{IsToldFrame}
use Rattle.journal_reader.specs.Reading.{frame_head, told_frame, told_end}
use Rattle.journal_reader.specs.JournalLines.{line_at}
use Rattle.journal_reader.proofs.Pieced.{next_of, others_of, some_next}
use Rattle.journal_reader.proofs.Traces.{frame_more, trace_ended, stuck_at_end, stuck_at_line}
use Rattle.journal_reader.proofs.reader.JournalReader.read_trace.Goals as goal

pub returns-in-Some-told_end-clause-lines : goal.returns-in-Some-told_end-clause-lines
returns-in-Some-told_end-clause-lines c =
    let n = c.args.number in
    let line = c.in-Some.line.now in
    let head = sym (c.as_str-in-None.ensures.value ∙ c.in_ok-head-in-None.ensures) in
    let loop = c.loop-line.invariant in
    trace_ended c.args.self.now.images.now c.requires.few n.round n.thread n.event c.loop-line.frames.items (pieces 10 c.args.self.now.rest.now) (pieces 10 c.loop-line.self.rest.now) (pieces 10 c.in-Some.rest.now) line c.in-Some-told_end.end
    loop.told loop.cut c.in-Some.ensures.lines (ap (λ (x : List ℕ). told_end x line) head ∙ sym c.told_end.ensures ∙ c.in-Some-told_end.is)

pub returns-in-None-told_end-clause-lines : goal.returns-in-None-told_end-clause-lines
returns-in-None-told_end-clause-lines c =
    let n = c.args.number in
    let line = c.in-Some.line.now in
    let rest = c.in-Some.rest.now in
    let loop = c.loop-line.invariant in
    let counted : c.len.result ≡ length c.loop-line.frames.items = omega (arith, c.len.ensures, c.loop-line.frames.ok.0) in
    let frame = sym (c.as_str.ensures.value ∙ c.in_ok-head.ensures) in
    let head = sym (c.as_str-in-None.ensures.value ∙ c.in_ok-head-in-None.ensures) in
    stuck_at_line c.args.self.now.images.now c.requires.few n.round n.thread n.event c.loop-line.frames.items loop.told (pieces 10 c.args.self.now.rest.now) (pieces 10 c.loop-line.self.rest.now) line (next_of rest) (others_of rest)
    loop.cut (some_next (pieces 10 c.loop-line.self.rest.now) line rest c.in-Some.ensures.lines)
    (record {
      frame =
          ap (λ (k : ℕ). told_frame c.args.self.now.images.now (frame_head n.round n.thread n.event k) line) (sym counted)
          ∙ ap (λ (x : List ℕ). told_frame c.args.self.now.images.now x line) frame
          ∙ sym (ap (λ (images : List _). told_frame images c.as_str.result.now line) loop.images)
          ∙ sym c.told_frame.ensures ∙ c.in-None.is;
      end = ap (λ (x : List ℕ). told_end x line) head ∙ sym c.told_end.ensures ∙ c.in-None-told_end.is;
    })

pub loop-line-preserved : goal.loop-line-preserved
loop-line-preserved c =
    let n = c.args.number in
    let line = c.in-Some.line.now in
    let loop = c.loop-line.invariant in
    let counted : c.len.result ≡ length c.loop-line.frames.items = omega (arith, c.len.ensures, c.loop-line.frames.ok.0) in
    let frame = sym (c.as_str.ensures.value ∙ c.in_ok-head.ensures) in
    let p = frame_more c.args.self.now.images.now c.requires.few n.round n.thread n.event c.loop-line.frames.items (pieces 10 c.args.self.now.rest.now) (pieces 10 c.loop-line.self.rest.now) (pieces 10 c.in-Some.rest.now) line c.in-Some-told_frame.frame
    loop.told loop.cut c.in-Some.ensures.lines
    (ap (λ (k : ℕ). told_frame c.args.self.now.images.now (frame_head n.round n.thread n.event k) line) (sym counted)
    ∙ ap (λ (x : List ℕ). told_frame c.args.self.now.images.now x line) frame
    ∙ sym (ap (λ (images : List _). told_frame images c.as_str.result.now line) loop.images)
    ∙ sym c.told_frame.ensures ∙ c.in-Some-told_frame.is) in
    let is : c.add_copy.new.items.items ≡ c.loop-line.frames.items ++ c.in-Some-told_frame.frame ∷ [] = c.in_ok-add_copy-in-Some-told_frame.ensures in
    record {
      images = loop.images;
      told = subst (AllByRecursion (IsToldFrame c.args.self.now.images.now)) (sym is) p.0;
      cut = p.1 ∙ sym (ap (λ (x : List FrameLine). map (line_at n.round n.thread n.event) (frame_lines 0 x) ++ pieces 10 c.in-Some.rest.now) is);
    }

pub returns-clause-lines : goal.returns-clause-lines
returns-clause-lines c =
    let n = c.args.number in
    let loop = c.loop-line.invariant in
    stuck_at_end c.args.self.now.images.now c.requires.few n.round n.thread n.event c.loop-line.frames.items loop.told (pieces 10 c.args.self.now.rest.now) (pieces 10 c.loop-line.self.rest.now) c.loop-line.self.rest.now loop.cut c.in_default.ensures.lines

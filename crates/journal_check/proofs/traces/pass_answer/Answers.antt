use Rattle.std.proofs.Common.{◌≡◌, ◌<◌, List, length, get_or, inl, refl, ◌∙◌, ap, subst, arith}
use Rattle.script_text.specs.ScriptData.{ScriptData, SnapshotData}
use Rattle.trace_check.specs.Departures.{IsDeparture}
use Rattle.unwind_step.specs.Backtrace.{Unfolds}
use Rattle.journal_check.proofs.Passing.{departs_here, no_trace, one_passed, unfolds_here}
use Rattle.journal_check.proofs.traces.pass_answer.Goals.{in-Unwind+in-Some+in_default-departure, in_default}
use Rattle.journal_check.proofs.traces.pass_answer.Goals as goal

pub returns-in-Some-departure : goal.returns-in-Some-departure
returns-in-Some-departure c =
    let script = c.args.script.now in
    let snapshots : c.deref.result.now ≡ script.snapshots = c.deref.ensures.value ∙ ap (λ (s : ScriptData). s.snapshots) c.script.view_is in
    let sections : c.as_slice-sections.result.now ≡ script.sections = c.as_slice-sections.ensures.value ∙ ap (λ (s : ScriptData). s.sections) c.script.view_is in
    let recorded = c.in-Some.recorded.now in
    let trace = c.in-Unwind.trace in
    let index = c.in-Some-departure.index in
    let look = c.in-Some.ensures.lookup in
    let first = c.in_ok-first.ensures.ok in
    let line = c.in_ok-line_after.ensures.ok in
    let here = (c.in-Some-departure.ensures.departs index).0 refl in
    let departs = subst (λ (s : SnapshotData). IsDeparture c.as_slice-sections.result.now s.memory s.regs trace index) c.recorded.view_is here in
    inl (departs_here script c.args.answer.now c.in-Unwind.snapshot trace recorded c.in-Unwind.is
    (subst (λ (xs : List SnapshotData). c.in-Unwind.snapshot < length xs) snapshots look.3.0)
    (subst (λ (xs : List SnapshotData). recorded ≡ get_or xs c.in-Unwind.snapshot recorded) snapshots look.1)
    c.args.line c.in_ok-line_after.field-0 index
    (subst (λ xs. IsDeparture xs recorded.memory recorded.regs trace index) sections departs) (omega arith))

pub returns : goal.returns
returns c = elim c.match-answer.branch [
  | in-Unwind+in-Some+in_default-departure w ↦ (
      let script = c.args.script.now in
      let snapshots : w.deref.result.now ≡ script.snapshots = w.deref.ensures.value ∙ ap (λ (s : ScriptData). s.snapshots) c.script.view_is in
      let sections : w.as_slice-sections.result.now ≡ script.sections = w.as_slice-sections.ensures.value ∙ ap (λ (s : ScriptData). s.sections) c.script.view_is in
      let recorded = w.in-Some.recorded.now in
      let trace = w.in-Unwind.trace in
      let look = w.in-Some.ensures.lookup in
      let here = w.departure.ensures.unfolds.0 w.in_default-departure.is in
      let unfolds = subst (λ (s : SnapshotData). Unfolds w.as_slice-sections.result.now s.memory s.regs trace) w.recorded.view_is here in
      one_passed script c.args.answer.now c.args.line c.line_count.result c.line_after-2.result
      (unfolds_here script c.args.answer.now w.in-Unwind.snapshot trace recorded w.in-Unwind.is
      (subst (λ (xs : List SnapshotData). w.in-Unwind.snapshot < length xs) snapshots look.3.0)
      (subst (λ (xs : List SnapshotData). recorded ≡ get_or xs w.in-Unwind.snapshot recorded) snapshots look.1)
      (subst (λ xs. Unfolds xs recorded.memory recorded.regs trace) sections unfolds))
      c.line_count.ensures c.line_after-2.ensures.ok c.line_after-2.ensures.err)
  | in_default w ↦
      one_passed c.args.script.now c.args.answer.now c.args.line c.line_count.result c.line_after-2.result (no_trace c.args.script.now c.args.answer.now w.in_default.not-Unwind)
      c.line_count.ensures c.line_after-2.ensures.ok c.line_after-2.ensures.err
]

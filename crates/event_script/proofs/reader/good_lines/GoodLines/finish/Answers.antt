use Rattle.std.proofs.Common.{List, ℕ, sym, ap, subst, ◌∙◌}
use Rattle.std.proofs.lemmas.Result.{err_from_is_err_and}
use Rattle.event_script.specs.Fault.{FailsAt}
use Rattle.event_script.specs.Reading.{at_end, at_line}
use Rattle.event_script.specs.Taken.{LinesData, AreLinesOf}
use Rattle.event_script.proofs.LinesRead.{outcome_sound}
use Rattle.event_script.proofs.Taken.{lines_ended}
use Rattle.event_script.proofs.reader.good_lines.GoodLines.finish.Goals as goal

pub returns-in_err-numbered-clause-draft : goal.returns-in_err-numbered-clause-draft
returns-in_err-numbered-clause-draft c = λ bytes are.
    let inside = c.self.inside in
    let given = at_end inside.draft c.deref.result.now in
    let own = subst (λ (l : LinesData). AreLinesOf bytes l) (sym c.self.view_is) are in
    let comes = lines_ended bytes _ own ∙ ap (λ (k : List ℕ). at_line inside.number (at_end inside.draft k)) (sym c.deref.ensures.value) in
    let e = err_from_is_err_and c.from_residual.result c.from_residual.ensures.1 in
    rw (e.1, e.2) (subst (FailsAt c.in_err-numbered.field-0.0) (sym comes) (c.in_err-numbered.ensures.line inside.draft given c.check_end.ensures))

pub returns-clause-draft : goal.returns-clause-draft
returns-clause-draft c = λ bytes are.
    let inside = c.self.inside in
    let given = at_end inside.draft c.deref.result.now in
    let own = subst (λ (l : LinesData). AreLinesOf bytes l) (sym c.self.view_is) are in
    lines_ended bytes _ own
    ∙ ap (λ (k : List ℕ). at_line inside.number (at_end inside.draft k)) (sym c.deref.ensures.value)
    ∙ c.in_ok-numbered.ensures.line inside.draft given c.check_end.ensures

pub returns-clause-runnable : goal.returns-clause-runnable
returns-clause-runnable c =
    let inside = c.self.inside in
    let given = at_end inside.draft c.deref.result.now in
    let bytes = c.self.invariant.0 in
    let read = lines_ended bytes _ c.self.invariant.1
    ∙ ap (λ (k : List ℕ). at_line inside.number (at_end inside.draft k)) (sym c.deref.ensures.value)
    ∙ c.in_ok-numbered.ensures.line inside.draft given c.check_end.ensures in
    (outcome_sound bytes inside.draft read).runnable

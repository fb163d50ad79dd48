use Rattle.std.proofs.Common.{List, ℕ, [], Result, sym, subst, ◌∙◌, append-nil}
use Rattle.std.proofs.lemmas.Result.{err_from_is_err_and}
use Rattle.script_text.specs.ScriptData.{IsRunnable}
use Rattle.script_text.specs.Spelling.{IsScript}
use Rattle.event_script.specs.Draft.{DraftData}
use Rattle.event_script.specs.Fault.{Tells}
use Rattle.event_script.specs.Taken.{LinesData, HasTaken}
use Rattle.event_script.specs.declared.reader.fault.ScriptFault.{ScriptFault}
use Rattle.event_script.proofs.FirstBad.{tells}
use Rattle.event_script.proofs.LinesRead.{outcome_sound}
use Rattle.event_script.proofs.reader.ScriptReader.finish.Goals as goal

pub returns-in_err-reading-clause-bad : goal.returns-in_err-reading-clause-bad
returns-in_err-reading-clause-bad c = λ bytes taken.
    let P : Result LinesData ScriptFault → Type 0 = HasTaken bytes in
    let told = subst P (sym c.self.view_is ∙ c.in_err-reading.was) taken in
    let e = err_from_is_err_and c.from_residual.result c.from_residual.ensures.1 in
    rw (e.1, e.2) (subst (λ (x : List ℕ). Tells x c.in_err-reading.field-0.0) (append-nil bytes) (told.0 []))

pub returns-in_err-draft-clause-bad : goal.returns-in_err-draft-clause-bad
returns-in_err-draft-clause-bad c = λ bytes taken.
    let P : Result LinesData ScriptFault → Type 0 = HasTaken bytes in
    let are = subst P (sym c.self.view_is ∙ c.in_ok-reading.was) taken in
    let e = err_from_is_err_and c.from_residual-in_err-draft.result c.from_residual-in_err-draft.ensures.1 in
    rw (e.1, e.2) (tells bytes c.in_err-draft.field-0.0 (c.in_err-draft.ensures.draft bytes are))

pub invariant_of-result : goal.invariant_of-result
invariant_of-result c = subst (λ (known : DraftData). IsRunnable known.script) (sym c.draft.view_is) c.in_ok-draft.ensures.runnable

pub returns-clause-ok : goal.returns-clause-ok
returns-clause-ok c = λ bytes taken.
    let P : Result LinesData ScriptFault → Type 0 = HasTaken bytes in
    let are = subst P (sym c.self.view_is ∙ c.in_ok-reading.was) taken in
    subst (λ (known : DraftData). IsScript bytes known.script) (sym c.draft.view_is) (outcome_sound bytes c.in_ok-draft.draft (c.in_ok-draft.ensures.draft bytes are))

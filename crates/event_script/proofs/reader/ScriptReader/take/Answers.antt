use Rattle.std.proofs.Common.{List, ℕ, ◌++◌, Result, sym, subst, ◌∙◌, append_assoc}
use Rattle.event_script.specs.Fault.{Tells}
use Rattle.event_script.specs.Taken.{LinesData, HasTaken}
use Rattle.event_script.specs.declared.reader.fault.ScriptFault.{ScriptFault}
use Rattle.event_script.proofs.reader.ScriptReader.take.Goals.{in-Ok, in-Err}
use Rattle.event_script.proofs.reader.ScriptReader.take.Goals as goal

pub returns : goal.returns
returns c = λ bytes taken.
    let piece = c.args.piece.now in
    let P : Result LinesData ScriptFault → Type 0 = HasTaken bytes in
    let had = subst P (sym c.self.view_is ∙ sym c.replace-reading.ensures.value) taken in
    elim c.match-reading.branch [
      | in-Ok w ↦ rw w.t-10-is (w.take.ensures bytes (subst P w.in-Ok.is had))
      | in-Err w ↦ (
          let told = subst P w.in-Err.is had in
          rw w.t-10-is (λ rest. subst (λ (x : List ℕ). Tells x w.in-Err.fault) (sym (append_assoc bytes piece rest)) (told.0 (piece ++ rest)), told.1))
    ]

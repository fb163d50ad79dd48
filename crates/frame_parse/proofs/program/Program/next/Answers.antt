use Rattle.std.proofs.Common.{◌∷◌, ap, sym, ◌∙◌}
use Rattle.frame_parse.specs.Instructions.{StepData}
use Rattle.frame_parse.specs.Steps.{ProgramData, HasSteps}
use Rattle.frame_parse.proofs.LentSteps.{next_lent, none_lent}
use Rattle.frame_parse.proofs.program.Program.next.Goals as goal
use Rattle.frame_parse.proofs.program.Program.next.Goals.{in-Some, in-None}

pub returns-clause-steps : goal.returns-clause-steps
returns-clause-steps c = λ steps has.
    let p = c.self.inside in
    let was : ProgramData = record { bytes = p.bytes.now; left = p.left } in
    let here : HasSteps was steps = rw (← c.self.view_is) at has in
    elim c.match-next.branch [
      | in-Some w ↦
          let n = next_lent p.bytes.now p.left c.next.new.self w.in-Some.step steps w.in-Some.ensures.steps here in
          rw w.result-is (n.0, n.1 ∙ ap (λ (x : StepData). x ∷ n.0) (sym w.lent_step.ensures), n.2)
      | in-None w ↦ rw w.result-is (none_lent p.bytes.now p.left steps w.in-None.ensures.steps here)
    ]

use Rattle.std.proofs.Common.{◌<◌, length, ap, arith}
use Rattle.frame_parse.specs.Programs.{HasPlacedSteps, PlacedProgramData, step}
use Rattle.frame_parse.proofs.ProgramParts.{steps_sound}
use Rattle.eh_bytes.proofs.Steps.{step_shrinks}
use Rattle.frame_parse.proofs.StepsLeft.{nothing_left, next_left, none_refused, left_by}
use Rattle.frame_parse.proofs.placed_program.PlacedProgram.next.Goals as goal
use Rattle.frame_parse.proofs.placed_program.PlacedProgram.next.Goals.{in-Ok, in-Err}

pub returns-then-left-eq0-clause-steps : goal.returns-then-left-eq0-clause-steps
returns-then-left-eq0-clause-steps c = λ steps has.
    let p = c.self.inside in
    let was : PlacedProgramData = record { context = p.context; state = p.state; rest = p.cursor } in
    let here : HasPlacedSteps was steps = rw (← c.self.view_is) at has in
    nothing_left was steps (omega (arith, c.left.ensures, c.if-left-eq0.true)) here

pub invariant_of-self : goal.invariant_of-self
invariant_of-self c =
    let p = c.self.inside in
    let was : PlacedProgramData = record { context = p.context; state = p.state; rest = p.cursor } in
    let some : 0 < length p.cursor.bytes = omega (arith, c.left.ensures, c.if-left-eq0.false) in
    left_by was c.self.invariant.0 c.step.result c.step.new.state c.step.new.cursor some c.self.invariant.1 c.step.ensures

pub returns-clause-steps : goal.returns-clause-steps
returns-clause-steps c = λ steps has.
    let p = c.self.inside in
    let was : PlacedProgramData = record { context = p.context; state = p.state; rest = p.cursor } in
    let here : HasPlacedSteps was steps = rw (← c.self.view_is) at has in
    let some : 0 < length p.cursor.bytes = omega (arith, c.left.ensures, c.if-left-eq0.false) in
    elim c.match-step.branch [
      | in-Ok w ↦ rw w.result-is (next_left was steps w.in-Ok.step c.step.new.state c.step.new.cursor some here w.in-Ok.ensures)
      | in-Err w ↦ absurd (none_refused was steps w.in-Err.field-0 some here w.in-Err.ensures)
    ]

pub returns-clause-shrinks : goal.returns-clause-shrinks
returns-clause-shrinks c =
    let p = c.self.inside in
    let one = step p.context in
    let sound = steps_sound p.context in
    elim c.match-step.branch [
      | in-Ok w ↦
          let shorter = step_shrinks one p.state p.cursor (w.in-Ok.step, c.step.new.state) c.step.new.cursor sound w.in-Ok.ensures in
          rw w.result-is (omega (arith, shorter, ap (λ (k : PlacedProgramData). length k.rest.bytes) c.self.view_is))
      | in-Err w ↦ rw w.result-is tt
    ]

pub returns-clause-end : goal.returns-clause-end
returns-clause-end c =
    let p = c.self.inside in
    let was : PlacedProgramData = record { context = p.context; state = p.state; rest = p.cursor } in
    let some : 0 < length p.cursor.bytes = omega (arith, c.left.ensures, c.if-left-eq0.false) in
    elim c.match-step.branch [
      | in-Ok w ↦ rw w.result-is tt
      | in-Err w ↦ absurd (none_refused was c.self.invariant.0 w.in-Err.field-0 some c.self.invariant.1 w.in-Err.ensures)
    ]

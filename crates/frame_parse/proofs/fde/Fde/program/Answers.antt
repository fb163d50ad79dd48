use Rattle.std.proofs.Common.{List, sym, subst}
use Rattle.frame_parse.specs.Instructions.{StepData}
use Rattle.frame_parse.specs.Steps.{ProgramData, HasSteps}
use Rattle.frame_parse.proofs.LentSteps.{known_lent}
use Rattle.frame_parse.proofs.fde.Fde.program.Goals as goal

pub returns-clause-known : goal.returns-clause-known
returns-clause-known c =
    let known = c.placed_program.ensures.known in
    subst (λ (p : ProgramData). (steps : List StepData) × HasSteps p steps) (sym c.new.ensures) (known_lent c.self.inside.bytes.now c.placed_program.result known.0 known.1)

use Rattle.std.proofs.Common.{List, subst}
use Rattle.frame_parse.specs.Instructions.{PlacedStep}
use Rattle.frame_parse.specs.Programs.{PlacedProgramData, HasPlacedSteps}
use Rattle.frame_rows.proofs.PlacedRows.{row_of, expressions_of}
use Rattle.frame_rows.proofs.laws.placed_rows_are_rows.Goals as goal

abbrev HasSteps : PlacedProgramData → Type 0
HasSteps p = (steps : List PlacedStep) × HasPlacedSteps p steps

pub returns-clause-rules : goal.returns-clause-rules
returns-clause-rules c =
    let initial = subst HasSteps c.placed_initial-initial.ensures.program c.placed_initial-initial.ensures.known in
    let own = subst HasSteps c.placed_program-own.ensures.program c.placed_program-own.ensures.known in
    λ pc row is. row_of c.args.fde.now pc row initial.0 own.0 c.steps_are_ordered.ensures.placed initial.1 own.1 is

pub returns-clause-expressions : goal.returns-clause-expressions
returns-clause-expressions c =
    let initial = subst HasSteps c.placed_initial-initial.ensures.program c.placed_initial-initial.ensures.known in
    let own = subst HasSteps c.placed_program-own.ensures.program c.placed_program-own.ensures.known in
    λ pc row is. expressions_of c.args.fde.now pc row initial.0 own.0 c.steps_are_ordered.ensures.placed initial.1 own.1 c.expressions_stand.ensures.initial c.expressions_stand.ensures.program is

use Rattle.frame_rows.proofs.InitialRows.{one_initial_row}
use Rattle.frame_rows.proofs.laws.initial_rows_are_the_cies.Goals as goal

pub returns : goal.returns
returns c = one_initial_row c.steps_are_ordered.ensures.placed c.initial_instructions_are_the_cies.ensures

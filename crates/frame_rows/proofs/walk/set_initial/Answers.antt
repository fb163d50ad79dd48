use Rattle.std.proofs.Common.{refl}
use Rattle.frame_rows.specs.Rows.{unset}
use Rattle.frame_rows.proofs.BothPrograms.{initial_left, whole_unless}
use Rattle.frame_rows.proofs.walk.set_initial.Goals as goal

pub returns-clause-row : goal.returns-clause-row
returns-clause-row c = λ initial has.
    let through = c.go_through.ensures in
    let told = whole_unless c.go_through.result (λ e. let untold = through.untold e in cc) in
    initial_left c.args.fde.now c.placed_initial.result c.first.result c.args.row.now c.go_through.new.row initial c.steps_are_ordered.ensures.placed
    c.placed_initial.ensures.program c.first.ensures c.requires (through.row told unset refl) has

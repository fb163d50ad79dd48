use Rattle.std.proofs.Common.{refl}
use Rattle.frame_rows.proofs.BothPrograms.{after_both, whole_unless}
use Rattle.frame_rows.proofs.walk.go_again.Goals as goal

pub returns : goal.returns
returns c = λ initial steps has_initial has.
    let f = c.args.fde.now in
    let base = c.initial_row-initial.result in
    let through = c.go_through.ensures in
    let told = whole_unless c.go_through.result (λ e. let untold = through.untold e in cc) in
    (after_both f c.placed_program.result f.entry.first c.args.pc base c.go_through.new.row initial steps c.steps_are_ordered.ensures.placed
    c.placed_program.ensures.program refl c.requires (c.initial_row-initial.ensures initial has_initial) (through.row told base refl) has_initial has).is

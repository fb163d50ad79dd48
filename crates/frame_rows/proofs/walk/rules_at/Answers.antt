use Rattle.frame_rows.proofs.BothPrograms.{after_both, after_initial}
use Rattle.frame_rows.proofs.walk.rules_at.Goals as goal

pub returns-else-not-told-clause-row : goal.returns-else-not-told-clause-row
returns-else-not-told-clause-row c = λ initial steps has_initial has.
    let base = c.set_initial.new.row in
    (after_both c.args.fde.now c.placed_program-program.result c.first.result c.args.pc base c.go_through-told.new.row initial steps c.steps_are_ordered.ensures.placed
    c.placed_program-program.ensures.program c.first.ensures c.if-first-pc.true (c.set_initial.ensures.row initial has_initial) (c.go_through-told.ensures.row c.if-not-told.false base tt) has_initial has).is

pub returns-else-first-pc-clause-row : goal.returns-else-first-pc-clause-row
returns-else-first-pc-clause-row c = λ initial steps has_initial has.
    (after_initial c.args.fde.now c.first.result c.args.pc c.set_initial.new.row initial steps c.steps_are_ordered.ensures.placed
    c.first.ensures c.if-first-pc.false (c.set_initial.ensures.row initial has_initial) has_initial has).is

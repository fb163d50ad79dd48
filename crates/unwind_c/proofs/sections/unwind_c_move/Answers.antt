use Rattle.unwind_c.proofs.sections.unwind_c_move.Goals as goal

pub returns : goal.returns
returns c = rw (c.open-other.ensures, c.of-2.ensures, c.open-open.ensures, c.of.ensures) (c.move_to.result, (rw (c.deref_mut.ensures.value, c.deref_mut-2.ensures.value) at c.move_to.ensures, c.of_moving.ensures))

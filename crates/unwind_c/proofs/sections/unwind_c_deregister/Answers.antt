use Rattle.unwind_c.proofs.sections.unwind_c_deregister.Goals as goal

pub returns : goal.returns
returns c = rw (c.open-open.ensures, c.of.ensures) (c.deregister.result, (rw c.deref_mut.ensures.value at c.deregister.ensures, c.of_deregistration.ensures))

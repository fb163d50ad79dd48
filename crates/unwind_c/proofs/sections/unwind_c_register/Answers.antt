use Rattle.unwind_c.proofs.sections.unwind_c_register.Goals as goal

pub returns : goal.returns
returns c = rw (c.open-open.ensures, c.of.ensures) (c.register.result, (rw c.deref_mut.ensures.value at c.register.ensures, c.of_bytes.ensures))

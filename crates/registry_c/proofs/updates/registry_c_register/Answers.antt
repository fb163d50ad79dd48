use Rattle.registry_c.proofs.updates.registry_c_register.Goals as goal

pub returns : goal.returns
returns c = rw (c.open-open.ensures, c.of.ensures) (c.register.result, (rw c.deref_mut.ensures.value at c.register.ensures, rw c.answer.ensures at c.of_insertion.ensures))

use Rattle.registry_c.proofs.updates.registry_c_load.Goals as goal

pub returns : goal.returns
returns c = rw (c.open-open.ensures, c.of.ensures) (c.load.result, (rw c.deref_mut.ensures.value at c.load.ensures, rw c.answer.ensures at c.of_load.ensures))

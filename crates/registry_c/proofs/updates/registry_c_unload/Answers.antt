use Rattle.registry_c.proofs.updates.registry_c_unload.Goals as goal

pub returns : goal.returns
returns c = rw (c.open-open.ensures, c.of.ensures) (c.unload.result, (rw c.deref_mut.ensures.value at c.unload.ensures, rw c.answer.ensures at c.of_removal.ensures))

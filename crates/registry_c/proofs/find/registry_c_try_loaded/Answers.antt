use Rattle.registry_c.proofs.find.registry_c_try_loaded.Goals as goal

pub returns : goal.returns
returns c = rw (c.open-open.ensures, c.of-2.ensures) (c.try_loaded.result, (rw c.deref_mut.ensures.value at c.try_loaded.ensures, c.of.ensures))

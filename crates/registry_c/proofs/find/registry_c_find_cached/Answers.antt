use Rattle.registry_c.proofs.find.registry_c_find_cached.Goals as goal

pub returns : goal.returns
returns c = rw (c.open-open.ensures, c.of-2.ensures) (c.find.result, (rw c.deref_mut.ensures.value at c.find.ensures, c.of.ensures))

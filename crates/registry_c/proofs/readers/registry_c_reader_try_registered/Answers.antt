use Rattle.registry_c.proofs.readers.registry_c_reader_try_registered.Goals as goal

pub returns : goal.returns
returns c = rw (c.open-open.ensures, c.of-2.ensures) (c.try_registered.result, (rw c.deref_mut.ensures.value at c.try_registered.ensures, c.of.ensures))

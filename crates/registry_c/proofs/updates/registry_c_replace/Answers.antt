use Rattle.registry_c.proofs.updates.registry_c_replace.Goals as goal

pub returns : goal.returns
returns c = rw (c.open-open.ensures, c.of.ensures) (c.replace.result, (rw c.deref_mut.ensures.value at c.replace.ensures, rw c.answer.ensures at c.of_replacement.ensures))

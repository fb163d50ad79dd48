use Rattle.run_engine.proofs.telling.tell_journal.Goals as goal

pub tell_rounds-requires : goal.tell_rounds-requires
tell_rounds-requires c = rw (c.deref.ensures.value, c.deref-2.ensures.value) (rw (← c.script.view_is, ← c.kept.view_is) at c.requires)

use Rattle.std.proofs.Common.{refl}
use Rattle.run_ports.proofs.memory.MemorySinkSink.write.Goals as goal

pub returns-then-is_listed-clause-fails : goal.returns-then-is_listed-clause-fails
returns-then-is_listed-clause-fails c = (λ _. rw (← c.self.view_is, ← c.deref.ensures.value) (c.is_listed.ensures.0 c.if-is_listed.true), λ _. refl)

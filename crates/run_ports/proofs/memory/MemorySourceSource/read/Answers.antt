use Rattle.run_ports.proofs.Bytes.{drop-more}
use Rattle.run_ports.proofs.memory.MemorySourceSource.read.Goals as goal

pub returns-clause-bytes : goal.returns-clause-bytes
returns-clause-bytes c =
    rw (← c.self.view_is, c.copy_front-count.ensures.copied, c.deref-2.ensures.value) (drop-more c.self.inside.at c.copy_front-count.result c.self.inside.bytes.items)

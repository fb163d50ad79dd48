use Rattle.node_store.proofs.Stores.{writes_node}
use Rattle.node_store.proofs.writing.writes.Goals as goal

pub returns : goal.returns
returns c = writes_node

use Rattle.std.proofs.Common.{Ok}
use Rattle.node_store.proofs.OutNodes.{took}
use Rattle.node_tests.proofs.free_nodes.taken.Goals as goal

pub returns : goal.returns
returns g c =
    let all = took c.args.me.now c.take_free.new.me (Ok c.in-Ok.node) c.in-Ok.ensures c.requires.holds in
    record { table = all.0.table; surplus = all.0.credit; holds = all.0.holds; out = all.1 }

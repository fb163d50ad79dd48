use Rattle.node_store.proofs.OutNodes.{gave, out_held}
use Rattle.node_tests.proofs.free_nodes.gives.Goals as goal

pub give_free-requires-clause-held : goal.give_free-requires-clause-held
give_free-requires-clause-held g c = out_held c.args.node c.args.me.now.log c.requires.holds c.requires.out

pub returns : goal.returns
returns g c =
    let all = gave c.args.node c.args.me.now c.give_free.new.me c.in-Ok.ensures.gives (c.in-Ok.ensures.others c.requires.holds.settled) c.requires.holds in
    record { table = all.0; surplus = c.in-Ok.ensures.spends; holds = all.1; out = all.2 }

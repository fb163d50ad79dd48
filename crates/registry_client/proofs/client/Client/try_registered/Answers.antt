use Rattle.std.proofs.Common.{rules}
use Rattle.registry_client.proofs.Caches.{by_tree, goes_on}
use Rattle.registry_client.proofs.client.Client.try_registered.Goals as goal

pub invariant_of-self : goal.invariant_of-self
invariant_of-self c =
    let adds = by_tree _ c.args.pc c.self.inside.me c.try_registered.new.me c.try_registered.result c.try_registered.ensures.tries in
    (goes_on c.caches_go_on_to_fit.ensures _ c.try_registered.new.me _ _ adds c.self.invariant.0 (search rules) (search rules) (search rules) (search rules) (search rules), c.self.invariant.1)

use Rattle.std.proofs.Common.{rules}
use Rattle.registry_client.proofs.Attempting.{gave_up}
use Rattle.registry_client.proofs.Caches.{by_removal, goes_on}
use Rattle.registry_client.proofs.client.Client.deregister.Goals as goal

pub invariant_of-self : goal.invariant_of-self
invariant_of-self c =
    let adds = by_removal _ c.args.base c.self.inside.me c.deregister_by.new.me c.in-Ok.removed c.in-Ok.ensures.answer in
    (goes_on c.caches_go_on_to_fit.ensures _ c.deregister_by.new.me _ _ adds c.self.invariant.0 (search rules) (search rules) (search rules) (λ kept. c.in-Ok.ensures.call.idle.out) (search rules), c.self.invariant.1)

pub invariant_of-self-in-Err : goal.invariant_of-self-in-Err
invariant_of-self-in-Err c =
    (rw c.is_lost-self-inside.ensures (gave_up c.caches_go_on_to_fit.ensures _ c.in-Err.why c.deregister_by.new.me c.self.invariant.0 c.in-Err.ensures.call.busy.1 c.in-Err.ensures.call.begun), c.self.invariant.1)

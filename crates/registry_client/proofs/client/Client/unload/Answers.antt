use Rattle.std.proofs.Common.{rules, ap}
use Rattle.word_rule.specs.CallerData.{CallerData}
use Rattle.registry_client.proofs.Caches.{adds_none, by_unload, goes_on}
use Rattle.registry_client.proofs.client.Client.unload.Goals as goal

pub invariant_of-self : goal.invariant_of-self
invariant_of-self c =
    let adds = by_unload c.deref.result.now.terms c.args.base c.self.inside.me c.unload_by.new.me c.in-Ok.unloaded c.in-Ok.ensures.answer in
    (goes_on c.caches_go_on_to_fit.ensures _ c.unload_by.new.me _ _ adds c.self.invariant.0 (search rules) (search rules) (search rules) (search rules) (search rules), c.self.invariant.1)

pub invariant_of-self-in-Err : goal.invariant_of-self-in-Err
invariant_of-self-in-Err c =
    let adds = adds_none c.self.inside.me c.unload_by.new.me (ap (λ (k : CallerData). k.log.receipts.own) c.in-Err.ensures.call.busy.1.1.1.1) in
    (goes_on c.caches_go_on_to_fit.ensures _ c.unload_by.new.me _ _ adds c.self.invariant.0 (search rules) (search rules) (search rules) (search rules) (search rules), c.self.invariant.1)

use Rattle.std.proofs.Common.{rules, ap}
use Rattle.registry_client.proofs.Caches.{adds_none, goes_on}
use Rattle.word_rule.specs.CallerData.{CallerData}
use Rattle.registry_client.proofs.client.Client.join.Goals as goal

pub invariant_of-self-in_default : goal.invariant_of-self-in_default
invariant_of-self-in_default c =
    let adds = adds_none c.self.inside.me c.join.new.me (ap (λ (k : CallerData). k.log.receipts.own) c.in_default.ensures.ok) in
    (goes_on c.caches_go_on_to_fit.ensures _ c.join.new.me _ _ adds c.self.invariant.0 (search rules) (search rules) (search rules) (search rules) (search rules), c.self.invariant.1)

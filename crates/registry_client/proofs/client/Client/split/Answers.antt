use Rattle.std.proofs.Common.{rules, ap}
use Rattle.registry_client.proofs.Caches.{adds_none, goes_on}
use Rattle.word_rule.specs.CallerData.{CallerData}
use Rattle.registry_client.proofs.client.Client.split.Goals as goal

pub invariant_of-self-2 : goal.invariant_of-self-2
invariant_of-self-2 c =
    let adds = adds_none c.self.inside.me c.split.new.me (ap (λ (k : CallerData). k.log.receipts.own) c.in-Ok-split.ensures.me) in
    (goes_on c.caches_go_on_to_fit.ensures _ c.split.new.me _ _ adds c.self.invariant.0 (search rules) (search rules) (search rules) (search rules) (search rules), c.self.invariant.1)

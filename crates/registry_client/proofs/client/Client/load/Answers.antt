use Rattle.std.proofs.Common.{rules, ap, subst, sym}
use Rattle.registry_client.proofs.Caches.{adds_none, by_load, goes_on}
use Rattle.registry_core.specs.Begun.{TriesLoad}
use Rattle.registry_client.proofs.Attempting.{answer_of, loaded, may_add}
use Rattle.registry_client.specs.Tries.{Begins}
use Rattle.word_rule.specs.CallerData.{CallerData}
use Rattle.registry_client.proofs.client.Client.load.Goals as goal

pub invariant_of-self : goal.invariant_of-self
invariant_of-self c =
    let adds = by_load c.deref.result.now.terms c.in-Ok.member c.self-2.inside.me c.load_by.new.me c.in-Ok-load_by.loading c.in-Ok-load_by.ensures.answer in
    (goes_on c.caches_go_on_to_fit.ensures _ c.load_by.new.me _ _ adds c.self-2.invariant.0 (search rules) (search rules) (search rules) (search rules) (search rules), c.self-2.invariant.1)

pub invariant_of-self-in-Err-load_by : goal.invariant_of-self-in-Err-load_by
invariant_of-self-in-Err-load_by c =
    let adds = adds_none c.self-2.inside.me c.load_by.new.me (ap (λ (k : CallerData). k.log.receipts.own) c.in-Err-load_by.ensures.call.busy.1.1.1.1) in
    (goes_on c.caches_go_on_to_fit.ensures _ c.load_by.new.me _ _ adds c.self-2.invariant.0 (search rules) (search rules) (search rules) (search rules) (search rules), c.self-2.invariant.1)

pub returns-in-Ok-load_by : goal.returns-in-Ok-load_by
returns-in-Ok-load_by c =
    let may = may_add c.args.told.now _ c.args.self.now _ c.self.invariant.1 c.self.view_is c.in-Ok.ensures.member.1 in
    let begun = subst (Begins c.args.self.now) (sym c.self-2.view_is) c.if-not-begin.ensures in
    loaded c.args.told.now c.args.self.now _ _ may begun c.in-Ok-load_by.loading (answer_of (λ t m. TriesLoad t m c.self-2.inside.me c.load_by.new.me c.in-Ok-load_by.loading) _ _ _ _ c.deref.ensures c.in-Ok.ensures.member.0 c.in-Ok-load_by.ensures.answer)

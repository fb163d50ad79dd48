use Rattle.std.proofs.Common.{rules, subst, sym}
use Rattle.registry_client.proofs.Caches.{by_insertion, goes_on}
use Rattle.btree_change.specs.Insertion.{TriesInsertion}
use Rattle.registry_client.proofs.Attempting.{answer_of, gave_up, may_add, registered}
use Rattle.registry_client.specs.Tries.{Begins}
use Rattle.registry_client.proofs.client.Client.register.Goals as goal

pub invariant_of-self : goal.invariant_of-self
invariant_of-self c =
    let adds = by_insertion _ _ c.self-2.inside.me c.register_by.new.me c.in-Ok-register_by.inserted c.in-Ok-register_by.ensures.answer in
    (goes_on c.caches_go_on_to_fit.ensures _ c.register_by.new.me _ _ adds c.self-2.invariant.0 (search rules) (search rules) (search rules) (λ kept. c.in-Ok-register_by.ensures.call.idle.out) (search rules), c.self-2.invariant.1)

pub invariant_of-self-in-Err-register_by : goal.invariant_of-self-in-Err-register_by
invariant_of-self-in-Err-register_by c =
    (rw c.is_lost-self-inside.ensures (gave_up c.caches_go_on_to_fit.ensures _ c.in-Err-register_by.why c.register_by.new.me c.self-2.invariant.0 c.in-Err-register_by.ensures.call.busy.1 c.in-Err-register_by.ensures.call.begun), c.self-2.invariant.1)

pub returns-in-Ok-register_by : goal.returns-in-Ok-register_by
returns-in-Ok-register_by c =
    let may = may_add c.args.told.now _ c.args.self.now _ c.self.invariant.1 c.self.view_is c.in-Ok.ensures.member.1 in
    let begun = subst (Begins c.args.self.now) (sym c.self-2.view_is) c.if-not-begin.ensures in
    registered c.args.told.now c.args.self.now _ _ may begun c.in-Ok-register_by.inserted (answer_of (λ t m. TriesInsertion t m c.self-2.inside.me c.register_by.new.me c.in-Ok-register_by.inserted) _ _ _ _ c.deref.ensures c.in-Ok.ensures.member.0 c.in-Ok-register_by.ensures.answer)

use Rattle.std.proofs.Common.{rules, subst, sym}
use Rattle.registry_client.proofs.Caches.{by_replacement, goes_on}
use Rattle.btree_change.specs.Replacement.{TriesReplacement}
use Rattle.registry_client.proofs.Attempting.{answer_of, gave_up, given, may_add}
use Rattle.registry_client.specs.Tries.{Begins}
use Rattle.registry_client.proofs.client.Client.replace.Goals as goal

pub invariant_of-self : goal.invariant_of-self
invariant_of-self c =
    let adds = by_replacement _ _ c.self-2.inside.me c.replace_by.new.me c.in-Ok-replace_by.replaced c.in-Ok-replace_by.ensures.answer in
    (goes_on c.caches_go_on_to_fit.ensures _ c.replace_by.new.me _ _ adds c.self-2.invariant.0 (search rules) (search rules) (search rules) (λ kept. c.in-Ok-replace_by.ensures.call.idle.out) (search rules), c.self-2.invariant.1)

pub invariant_of-self-in-Err-replace_by : goal.invariant_of-self-in-Err-replace_by
invariant_of-self-in-Err-replace_by c =
    (rw c.is_lost-self-inside.ensures (gave_up c.caches_go_on_to_fit.ensures _ c.in-Err-replace_by.why c.replace_by.new.me c.self-2.invariant.0 c.in-Err-replace_by.ensures.call.busy.1 c.in-Err-replace_by.ensures.call.begun), c.self-2.invariant.1)

pub returns-in-Ok-replace_by : goal.returns-in-Ok-replace_by
returns-in-Ok-replace_by c =
    let may = may_add c.args.told.now _ c.args.self.now _ c.self.invariant.1 c.self.view_is c.in-Ok.ensures.member.1 in
    let begun = subst (Begins c.args.self.now) (sym c.self-2.view_is) c.if-not-begin.ensures in
    given c.args.told.now c.args.self.now _ _ may begun c.in-Ok-replace_by.replaced (answer_of (λ t m. TriesReplacement t m c.self-2.inside.me c.replace_by.new.me c.in-Ok-replace_by.replaced) _ _ _ _ c.deref.ensures c.in-Ok.ensures.member.0 c.in-Ok-replace_by.ensures.answer)

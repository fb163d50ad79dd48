use Rattle.std.proofs.lemmas.Option.{IfSome_then}
use Rattle.run_engine.proofs.kept.short_of.Goals as goal

pub returns-in-Register : goal.returns-in-Register
returns-in-Register c = rw c.in-Register.is (IfSome_then c.short_of_inserted.result c.short_of_inserted.ensures (λ kept tells. tells c.in-Register.image))

pub returns-in-Deregister : goal.returns-in-Deregister
returns-in-Deregister c = rw c.in-Deregister.is (IfSome_then c.short_of_removed.result c.short_of_removed.ensures.registered (λ kept tells. tells c.in-Deregister.base))

pub returns-in-Replace : goal.returns-in-Replace
returns-in-Replace c = rw c.in-Replace.is (IfSome_then c.short_of_replaced.result c.short_of_replaced.ensures (λ kept tells. tells c.args.images.now c.in-Replace.image))

pub returns-in-Load : goal.returns-in-Load
returns-in-Load c = rw c.in-Load.is (IfSome_then c.short_of_loading.result c.short_of_loading.ensures (λ kept tells. tells c.in-Load.image))

pub returns-in-Unload : goal.returns-in-Unload
returns-in-Unload c = rw c.in-Unload.is (IfSome_then c.short_of_removed-in-Unload.result c.short_of_removed-in-Unload.ensures.loaded (λ kept tells. tells c.in-Unload.base))

pub returns-in-Find : goal.returns-in-Find
returns-in-Find c = rw c.in-Find.is (IfSome_then c.short_of_place.result c.short_of_place.ensures (λ kept tells. tells c.in-Find.pc))

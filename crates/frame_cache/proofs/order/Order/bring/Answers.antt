use Rattle.frame_cache.proofs.Places.{slots_moved_up}
use Rattle.frame_cache.proofs.order.Order.bring.Goals as goal

pub invariant_of-self : goal.invariant_of-self
invariant_of-self c = slots_moved_up c.self.inside.slots c.copy_within.new.self c.args.place c.requires c.copy_within.ensures.after c.self.invariant

pub returns-clause-slots : goal.returns-clause-slots
returns-clause-slots c = slots_moved_up c.self.inside.slots c.copy_within.new.self c.args.place c.requires c.copy_within.ensures.after c.self.invariant

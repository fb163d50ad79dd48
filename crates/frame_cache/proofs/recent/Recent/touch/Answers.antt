use Rattle.std.proofs.Common.{ap, ◌∙◌, map, take, arith}
use Rattle.frame_cache.specs.Recent.{in_slot}
use Rattle.frame_cache.proofs.Entries.{touched}
use Rattle.frame_cache.proofs.Seeking.{place_low, place_used}
use Rattle.frame_cache.proofs.recent.Recent.touch.Goals as goal

pub bring-requires : goal.bring-requires
bring-requires c = place_low _ _ c.args.place c.self.view_is c.self.invariant c.requires

pub returns-clause-entries : goal.returns-clause-entries
returns-clause-entries c =
    let few = c.self.invariant.used in
    let slots = c.self.invariant.slots.count in
    rw (← c.self.view_is)
    (ap (λ slots. map (in_slot c.self.inside.members) (take c.self.inside.used slots)) c.bring.ensures.brought
    ∙ touched c.self.inside.members c.self.inside.order c.self.inside.used c.args.place (place_used _ _ c.args.place c.self.view_is c.self.invariant c.requires) (omega (arith, slots, few)))

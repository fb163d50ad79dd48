use Rattle.std.proofs.Common.{rules, subst, sym}
use Rattle.reg_model.specs.declared.answer.Half.TheVariants.{Loaded, Registered}
use Rattle.registry_client.specs.Finds.{AsksRegisteredBy}
use Rattle.registry_client.proofs.Caches.{asked_fits, by_cache, is_client, still_fits}
use Rattle.registry_client.proofs.client.Client.registered_by.Goals as goal

pub invariant_of-self : goal.invariant_of-self
invariant_of-self c =
    let k = c.self.inside.me in
    let k' = c.try_cached.new.me in
    let adds = by_cache _ c.args.pc c.self.inside.registered c.try_cached.new.self k k' c.try_cached.result c.try_cached.ensures.steps in
    (is_client _ (search rules) (search rules) (search rules) (search rules) (search rules) (asked_fits Registered _ c.args.pc c.self.inside.registered c.try_cached.new.self k k' c.try_cached.result c.try_cached.ensures.steps c.try_cached.ensures.fits c.self.invariant.0.registered.0) (still_fits c.caches_go_on_to_fit.ensures Loaded c.self.inside.loaded k k' adds c.self.invariant.0.loaded), c.self.invariant.1)

pub returns-in-Tables : goal.returns-in-Tables
returns-in-Tables c = subst (λ how. AsksRegisteredBy how c.args.pc c.args.self.now c.try_registered.new.self c.try_registered.result) (sym c.in-Tables.is) c.try_registered.ensures

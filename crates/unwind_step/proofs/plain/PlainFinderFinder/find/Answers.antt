use Rattle.unwind_step.proofs.Hits.{place_below}
use Rattle.unwind_step.proofs.plain.PlainFinderFinder.find.Goals as goal

pub returns-clause-below : goal.returns-clause-below
returns-clause-below g c =
    rw (← c.self.view_is) (place_below c.self.inside.registry.now c.self.inside.bound c.args.pc c.find.result.registered c.find.result.loaded c.self.invariant c.find.ensures.registered c.find.ensures.loaded)

use Rattle.unwind_step.proofs.Walking.{asked_more, queries_more, halves_more}
use Rattle.unwind_step.proofs.walk.Walk.ask.Goals as goal

pub returns-clause-asked : goal.returns-clause-asked
returns-clause-asked g c = asked_more _ _ c.self.view_is c.requires.unasked _ _ c.line_of-line.ensures.shows c.requires.bound c.line_of-line.ensures.below _ c.add.ensures.items

pub returns-clause-queries : goal.returns-clause-queries
returns-clause-queries g c = λ before goes. queries_more g.F.Finder.answers _ _ c.self.view_is _ _ c.add.ensures.items before _ _ c.line_of-line.ensures.answered goes

pub returns-clause-halves : goal.returns-clause-halves
returns-clause-halves g c = λ all. halves_more _ _ c.self.view_is _ _ c.add.ensures.items c.line_of-line.ensures.halves all

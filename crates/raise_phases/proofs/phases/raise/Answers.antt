use Rattle.std.proofs.Common.{All, List, sym, subst}
use Rattle.std.proofs.lemmas.List.Elements.{All-append}
use Rattle.reg_model.specs.Receipt.{IsPlace}
use Rattle.unwind_step.specs.declared.backtrace.FrameLine.{FrameLine}
use Rattle.unwind_step.specs.Finders.{GoesThrough}
use Rattle.raise_phases.specs.declared.raised.Phase.{Phase}
use Rattle.raise_phases.specs.Raising.{lines_of}
use Rattle.raise_phases.proofs.Searches.{GoesThrough-append}
use Rattle.raise_phases.proofs.phases.raise.Goals as goal

pub returns-clause-queries : goal.returns-clause-queries
returns-clause-queries g c = GoesThrough-append g.F.Finder.answers _ _ c.search-searched.new.finder _ _ (subst (λ (ps : List Phase). GoesThrough g.F.Finder.answers c.args.finder.now (lines_of ps) c.search-searched.new.finder) (sym c.conclude.ensures.search) c.search-searched.ensures.queries) c.conclude.ensures.queries

pub returns-clause-halves : goal.returns-clause-halves
returns-clause-halves g c = All-append (λ (l : FrameLine). IsPlace l.place) _ _ (subst (λ (ps : List Phase). All (λ (l : FrameLine). IsPlace l.place) (lines_of ps)) (sym c.conclude.ensures.search) c.search-searched.ensures.halves) c.conclude.ensures.halves

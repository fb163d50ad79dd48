use Rattle.std.proofs.Common.{All, sym, ◌∙◌, ap, subst, List}
use Rattle.reg_model.specs.Receipt.{IsPlace}
use Rattle.unwind_step.specs.declared.backtrace.FrameLine.{FrameLine}
use Rattle.unwind_step.specs.Finders.{GoesThrough}
use Rattle.unwind_step.specs.Walks.{WalkData}
use Rattle.unwind_step.proofs.Walking.{unfolded}
use Rattle.unwind_step.proofs.unwind.trace.Goals as goal

pub loop-end-preserved : goal.loop-end-preserved
loop-end-preserved g c =
    let before = c.loop-end.invariant in
    let moves = c.in_default.ensures.moves in
    let line = c.ask.ensures.line in
    let lines = ap (λ (w : WalkData). w.lines) moves in
    record {
      unasked = c.in_default.ensures.caller;
      sections = ap (λ (w : WalkData). w.sections) moves ∙ ap (λ (w : WalkData). w.sections) line ∙ before.sections;
      memory = ap (λ (w : WalkData). w.memory) moves ∙ ap (λ (w : WalkData). w.memory) line ∙ before.memory;
      regs = ap (λ (w : WalkData). w.regs) moves ∙ ap (λ (w : WalkData). w.regs) line ∙ before.regs;
      goes = subst (λ (ls : List FrameLine). GoesThrough g.F.Finder.answers c.args.finder.now ls c.ask.new.finder) (sym lines) (c.ask.ensures.queries c.args.finder.now before.goes);
      halves = subst (All (λ (l : FrameLine). IsPlace l.place)) (sym lines) (c.ask.ensures.halves before.halves);
      bound = c.ask.ensures.bound ∙ before.bound;
    }

pub returns-in-Some-clause-unfolds : goal.returns-in-Some-clause-unfolds
returns-in-Some-clause-unfolds g c =
    let before = c.loop-end.invariant in
    let line = c.ask.ensures.line in
    unfolded c.ask.new.self _ _ _ _ _ (ap (λ (w : WalkData). w.sections) line ∙ before.sections) (ap (λ (w : WalkData). w.memory) line ∙ before.memory) (ap (λ (w : WalkData). w.regs) line ∙ before.regs) (c.into_lines.ensures ∙ ap (λ (w : WalkData). w.lines) c.in-Some.ensures.stays) c.in-Some.ensures.ends

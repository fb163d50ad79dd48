use Rattle.std.proofs.Common.{All, List, ◌∷◌, [], ◌++◌, sym, ◌∙◌, ap, subst, arith}
use Rattle.reg_model.specs.Receipt.{IsPlace}
use Rattle.unwind_step.specs.declared.backtrace.FrameLine.{FrameLine}
use Rattle.unwind_step.specs.Finders.{GoesThrough}
use Rattle.unwind_step.specs.Walks.{WalkData}
use Rattle.raise_phases.proofs.Searches.{lines_more, judged_more, passed_more, few, ends_by_table, ends_as_backtrace}
use Rattle.raise_phases.proofs.phases.search.Goals as goal

pub overflow_cast-frame : goal.overflow_cast-frame
overflow_cast-frame g c =
    let before = c.frames.invariant in
    let room = before.unasked.room in
    omega (arith, few _ _ before.lines, room, c.len-frame.ensures, c.frames.phases.ok.0)

pub add-requires : goal.add-requires
add-requires g c =
    let before = c.frames.invariant in
    let room = before.unasked.room in
    omega (arith, few _ _ before.lines, room, before.room, c.frames.phases.ok.0)

pub frames-preserved : goal.frames-preserved
frames-preserved g c =
    let before = c.frames.invariant in
    let moves = c.in_default-up.ensures.moves in
    let line = c.ask-line.ensures.line in
    let lines = ap (λ (w : WalkData). w.lines) moves in
    record {
      unasked = c.in_default-up.ensures.caller;
      sections = ap (λ (w : WalkData). w.sections) moves ∙ ap (λ (w : WalkData). w.sections) line ∙ before.sections;
      memory = ap (λ (w : WalkData). w.memory) moves ∙ ap (λ (w : WalkData). w.memory) line ∙ before.memory;
      regs = ap (λ (w : WalkData). w.regs) moves ∙ ap (λ (w : WalkData). w.regs) line ∙ before.regs;
      lines = lines ∙ lines_more _ _ _ _ _ (ap (λ (w : WalkData). w.lines) line) before.lines c.add.ensures.items;
      are_judged = judged_more _ _ _ _ _ _ _ c.add.ensures.items c.verdict-verdict.ensures c.judge-judgement.ensures before.are_judged;
      passed = passed_more _ _ _ _ _ _ _ c.add.ensures.items c.in_default.ensures.passes c.judge-judgement.ensures before.passed;
      goes = subst (λ (ls : List FrameLine). GoesThrough g.F.Finder.answers c.args.finder.now ls c.ask-line.new.finder) (sym lines) (c.ask-line.ensures.queries c.args.finder.now before.goes);
      halves = subst (All (λ (l : FrameLine). IsPlace l.place)) (sym lines) (c.ask-line.ensures.halves before.halves);
      bound = c.ask-line.ensures.bound ∙ before.bound;
      room = omega (arith, before.room, c.add.ensures.capacity);
    }

pub returns-in-Some-clause-unfolds : goal.returns-in-Some-clause-unfolds
returns-in-Some-clause-unfolds g c =
    let before = c.frames.invariant in
    let line = c.ask-line.ensures.line in
    ends_by_table _ _ _ c.ask-line.new.self _ c.frames.phases.items _ _ _ c.len-frame.result _ (ap (λ (w : WalkData). w.sections) line ∙ before.sections) (ap (λ (w : WalkData). w.memory) line ∙ before.memory) (ap (λ (w : WalkData). w.regs) line ∙ before.regs) (ap (λ (w : WalkData). w.lines) line ∙ ap (λ (ls : List FrameLine). ls ++ c.ask-line.result ∷ []) before.lines) c.ask-line.ensures.asked c.add.ensures.items (judged_more _ _ _ _ _ _ _ c.add.ensures.items c.verdict-verdict.ensures c.judge-judgement.ensures before.are_judged) before.passed (omega (arith, c.len-frame.ensures, c.frames.phases.ok.0)) c.judge-judgement.ensures c.in-Some.ensures.stops

pub returns-in-Some-clause-queries : goal.returns-in-Some-clause-queries
returns-in-Some-clause-queries g c =
    let before = c.frames.invariant in
    subst (λ (ls : List FrameLine). GoesThrough g.F.Finder.answers c.args.finder.now ls c.ask-line.new.finder) (lines_more _ _ _ _ _ (ap (λ (w : WalkData). w.lines) c.ask-line.ensures.line) before.lines c.add.ensures.items) (c.ask-line.ensures.queries c.args.finder.now before.goes)

pub returns-in-Some-clause-halves : goal.returns-in-Some-clause-halves
returns-in-Some-clause-halves g c =
    let before = c.frames.invariant in
    subst (All (λ (l : FrameLine). IsPlace l.place)) (lines_more _ _ _ _ _ (ap (λ (w : WalkData). w.lines) c.ask-line.ensures.line) before.lines c.add.ensures.items) (c.ask-line.ensures.halves before.halves)

pub returns-in-Some-up-clause-unfolds : goal.returns-in-Some-up-clause-unfolds
returns-in-Some-up-clause-unfolds g c =
    let before = c.frames.invariant in
    let line = c.ask-line.ensures.line in
    ends_as_backtrace _ _ _ c.ask-line.new.self _ c.frames.phases.items _ _ _ _ (ap (λ (w : WalkData). w.sections) line ∙ before.sections) (ap (λ (w : WalkData). w.memory) line ∙ before.memory) (ap (λ (w : WalkData). w.regs) line ∙ before.regs) (ap (λ (w : WalkData). w.lines) line ∙ ap (λ (ls : List FrameLine). ls ++ c.ask-line.result ∷ []) before.lines) c.in-Some-up.ensures.ends c.add.ensures.items (judged_more _ _ _ _ _ _ _ c.add.ensures.items c.verdict-verdict.ensures c.judge-judgement.ensures before.are_judged) before.passed c.judge-judgement.ensures c.in_default.ensures.passes

pub returns-in-Some-up-clause-queries : goal.returns-in-Some-up-clause-queries
returns-in-Some-up-clause-queries g c =
    let before = c.frames.invariant in
    subst (λ (ls : List FrameLine). GoesThrough g.F.Finder.answers c.args.finder.now ls c.ask-line.new.finder) (lines_more _ _ _ _ _ (ap (λ (w : WalkData). w.lines) c.ask-line.ensures.line) before.lines c.add.ensures.items) (c.ask-line.ensures.queries c.args.finder.now before.goes)

pub returns-in-Some-up-clause-halves : goal.returns-in-Some-up-clause-halves
returns-in-Some-up-clause-halves g c =
    let before = c.frames.invariant in
    subst (All (λ (l : FrameLine). IsPlace l.place)) (lines_more _ _ _ _ _ (ap (λ (w : WalkData). w.lines) c.ask-line.ensures.line) before.lines c.add.ensures.items) (c.ask-line.ensures.halves before.halves)

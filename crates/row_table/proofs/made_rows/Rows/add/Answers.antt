use Rattle.std.proofs.Common.{List, sym, ap, subst, ◌∙◌, arith}
use Rattle.std.proofs.lemmas.Result.{err_from_is_err_and}
use Rattle.frame_parse.specs.Programs.{PlacedProgramData, HasPlacedSteps}
use Rattle.frame_rows.specs.declared.placed_row.PlacedRow.{PlacedRow}
use Rattle.frame_rows.specs.Rows.{applied}
use Rattle.row_table.specs.Courses.{Standing, standing}
use Rattle.row_table.specs.Making.{rows_in}
use Rattle.row_table.specs.Tables.{HasRow}
use Rattle.row_table.proofs.Growth.{rows_of}
use Rattle.row_table.proofs.Spans.{HasSpans, no_spans, one_more, last_one, refused_push}
use Rattle.row_table.proofs.Walks.{GoesOn, on_at_first, moved_on, stayed_on, plain_on, remembered_on, restored_on, row_up_to, row_to_the_end, has_room, has_one}
use Rattle.row_table.proofs.made_rows.Rows.add.Goals as goal

pub loop-step-init : goal.loop-step-init
loop-step-init c =
    let f = c.args.fde.now in
    let base = c.args.base.now in
    let old = c.args.self.now in
    let program = c.placed_program-program.result in
    let first = c.first-location.result in
    let begun = c.in_ok-begin.ensures.standing in record {
      on = subst (λ (s : Standing). GoesOn f base program first s.row s.kept) (sym begun) (on_at_first f base program first c.steps_are_ordered.ensures.placed c.placed_program-program.ensures.program c.first-location.ensures);
      base = c.requires.base;
      left = ap (λ (s : Standing). s.base) begun;
      spans =
          subst (λ (rows : List PlacedRow). HasSpans f (rows_in old) (rows_of old.starts.items old.numbers.items rows) first) (sym c.in_ok-begin.ensures.distinct)
          (no_spans f (rows_in old) first c.requires.even c.first-location.ensures);
    }

pub loop-step-preserved-then-step-location : goal.loop-step-preserved-then-step-location
loop-step-preserved-then-step-location c =
    let was = c.loop-step in
    let f = c.args.fde.now in
    let base = c.args.base.now in
    let here = standing was.self.course in
    let gives = c.in-Some.ensures.steps in
    let pushed = c.in_ok-push-in-Advance.ensures in
    let on = moved_on f base was.program c.next.new.self was.location here.row here.kept c.in-Some.step was.invariant.on gives c.in-Advance.is c.if-step-location.true in record {
      on = subst (λ (s : Standing). GoesOn f base c.next.new.self c.in-Some.step.location s.row s.kept) (sym pushed.standing) on;
      base = was.invariant.base;
      left = ap (λ (s : Standing). s.base) pushed.standing ∙ was.invariant.left;
      spans =
          one_more f (rows_in c.args.self.now) (rows_in was.self) (rows_in c.push.new.self) was.location here.row was.invariant.spans pushed.pushed c.in-Some.step.location c.if-step-location.true
          (λ pc le lt. row_up_to f base was.program c.next.new.self was.location here.row here.kept c.in-Some.step pc was.invariant.on was.invariant.base gives le lt);
    }

pub loop-step-preserved-else-step-location : goal.loop-step-preserved-else-step-location
loop-step-preserved-else-step-location c =
    let was = c.loop-step in
    let here = standing was.self.course in record {
      on = stayed_on c.args.fde.now c.args.base.now was.program c.next.new.self was.location here.row here.kept c.in-Some.step was.invariant.on c.in-Some.ensures.steps c.in-Advance.is c.if-step-location.false;
      base = was.invariant.base;
      left = was.invariant.left;
      spans = was.invariant.spans;
    }

pub remember-requires : goal.remember-requires
remember-requires c =
    let was = c.loop-step in
    let here = standing was.self.course in
    let known = c.placed_program-program.ensures.known in
    let has = subst (λ (p : PlacedProgramData). HasPlacedSteps p known.0) c.placed_program-program.ensures.program known.1 in
    has_room c.args.base.now was.program c.next.new.self was.location here.row here.kept c.in-Some.step known.0 (was.invariant.on known.0 has) c.in-Some.ensures.steps c.in-Remember.is

pub loop-step-preserved-in-Remember : goal.loop-step-preserved-in-Remember
loop-step-preserved-in-Remember c =
    let was = c.loop-step in
    let f = c.args.fde.now in
    let base = c.args.base.now in
    let here = standing was.self.course in
    let on = remembered_on f base was.program c.next.new.self was.location here.row here.kept c.in-Some.step was.invariant.on c.in-Some.ensures.steps c.in-Remember.is in
    let kept = c.remember.ensures.standing in record {
      on = subst (λ (s : Standing). GoesOn f base c.next.new.self was.location s.row s.kept) (sym kept) on;
      base = was.invariant.base;
      left = ap (λ (s : Standing). s.base) kept ∙ was.invariant.left;
      spans = subst (λ (rows : List PlacedRow). HasSpans f (rows_in c.args.self.now) (rows_of was.self.starts.items was.self.numbers.items rows) was.location) (sym c.remember.ensures.distinct) was.invariant.spans;
    }

pub restore-requires : goal.restore-requires
restore-requires c =
    let was = c.loop-step in
    let here = standing was.self.course in
    let known = c.placed_program-program.ensures.known in
    let has = subst (λ (p : PlacedProgramData). HasPlacedSteps p known.0) c.placed_program-program.ensures.program known.1 in
    has_one c.args.base.now was.program c.next.new.self was.location here.row here.kept c.in-Some.step known.0 (was.invariant.on known.0 has) c.in-Some.ensures.steps c.in-RestoreState.is

pub loop-step-preserved-in-RestoreState : goal.loop-step-preserved-in-RestoreState
loop-step-preserved-in-RestoreState c =
    let was = c.loop-step in
    let f = c.args.fde.now in
    let here = standing was.self.course in
    let back = standing c.restore.new.self in record {
      on = restored_on f c.args.base.now was.program c.next.new.self was.location here.row back.row here.kept back.kept c.in-Some.step was.invariant.on c.in-Some.ensures.steps c.in-RestoreState.is c.restore.ensures.kept;
      base = was.invariant.base;
      left = c.restore.ensures.base ∙ was.invariant.left;
      spans = subst (λ (rows : List PlacedRow). HasSpans f (rows_in c.args.self.now) (rows_of was.self.starts.items was.self.numbers.items rows) was.location) (sym c.restore.ensures.distinct) was.invariant.spans;
    }

pub loop-step-preserved : goal.loop-step-preserved
loop-step-preserved c =
    let was = c.loop-step in
    let f = c.args.fde.now in
    let base = c.args.base.now in
    let here = standing was.self.course in
    let not = c.in_default-instruction in
    let i = c.in-Some.step.instruction in
    let on = plain_on f base was.program c.next.new.self was.location here.row here.kept c.in-Some.step was.invariant.on c.in-Some.ensures.steps not.not-Advance not.not-Remember not.not-RestoreState in
    let by_left = subst (λ (k : PlacedRow). GoesOn f base c.next.new.self was.location (applied k here.row i) here.kept) (sym was.invariant.left) on in
    let went = c.in_ok-apply-in_default-instruction.ensures.standing in record {
      on = subst (λ (s : Standing). GoesOn f base c.next.new.self was.location s.row s.kept) (sym went) by_left;
      base = was.invariant.base;
      left = ap (λ (s : Standing). s.base) went ∙ was.invariant.left;
      spans = subst (λ (rows : List PlacedRow). HasSpans f (rows_in c.args.self.now) (rows_of was.self.starts.items was.self.numbers.items rows) was.location) (sym c.in_ok-apply-in_default-instruction.ensures.distinct) was.invariant.spans;
    }

pub returns-clause-added : goal.returns-clause-added
returns-clause-added c =
    let was = c.loop-step in
    let f = c.args.fde.now in
    let here = standing was.self.course in
    last_one f (rows_in c.args.self.now) (rows_in was.self) (rows_in c.push-2.new.self) was.location here.row was.invariant.spans c.in_ok-push.ensures.pushed
    (λ pc le. row_to_the_end f c.args.base.now was.program was.location here.row here.kept pc was.invariant.on was.invariant.base c.in_default.ensures.steps le)

pub returns-in_err-push-in-Advance-clause-refused : goal.returns-in_err-push-in-Advance-clause-refused
returns-in_err-push-in-Advance-clause-refused c =
    let was = c.loop-step in
    let f = c.args.fde.now in
    let here = standing was.self.course in
    let has : HasRow f here.row = (was.location, row_up_to f c.args.base.now was.program c.next.new.self was.location here.row here.kept c.in-Some.step was.location was.invariant.on was.invariant.base c.in-Some.ensures.steps (omega arith) c.if-step-location.true) in
    let p = err_from_is_err_and c.from_residual-in_err-push-in-Advance.result c.from_residual-in_err-push-in-Advance.ensures.1 in
    rw (p.1, p.2) (refused_push f (rows_in c.args.self.now) (rows_in was.self) was.location here.row c.in_err-push-in-Advance.field-0.0 was.invariant.spans has c.in_err-push-in-Advance.ensures.refused)

pub returns-in_err-push-clause-refused : goal.returns-in_err-push-clause-refused
returns-in_err-push-clause-refused c =
    let was = c.loop-step in
    let f = c.args.fde.now in
    let here = standing was.self.course in
    let has : HasRow f here.row = (was.location, row_to_the_end f c.args.base.now was.program was.location here.row here.kept was.location was.invariant.on was.invariant.base c.in_default.ensures.steps (omega arith)) in
    let p = err_from_is_err_and c.from_residual-in_err-push.result c.from_residual-in_err-push.ensures.1 in
    rw (p.1, p.2) (refused_push f (rows_in c.args.self.now) (rows_in was.self) was.location here.row c.in_err-push.field-0.0 was.invariant.spans has c.in_err-push.ensures.refused)

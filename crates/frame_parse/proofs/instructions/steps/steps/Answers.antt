use Rattle.std.proofs.Common.{◌<◌, length, ◌∙◌, arith}
use Rattle.std.proofs.lemmas.Result.{err_from_is_err_and}
use Rattle.frame_parse.specs.Programs.{step}
use Rattle.frame_parse.proofs.ProgramParts.{steps_sound}
use Rattle.eh_bytes.proofs.Steps.{read_step, read_refusal, read_end, step_shrinks}
use Rattle.frame_parse.proofs.instructions.steps.steps.Goals as goal

pub loop-cursor-smaller : goal.loop-cursor-smaller
loop-cursor-smaller c =
    let one = step c.args.context.now in
    let sound = steps_sound c.args.context.now in
    step_shrinks one c.loop-cursor.state c.loop-cursor.cursor (c.in_ok-step.field-0, c.step.new.state) c.step.new.cursor sound c.in_ok-step.ensures

pub loop-cursor-preserved : goal.loop-cursor-preserved
loop-cursor-preserved c =
    let one = step c.args.context.now in
    let sound = steps_sound c.args.context.now in
    let some : 0 < length c.loop-cursor.cursor.bytes = omega (arith, c.left.ensures, c.loop-cursor-test.true) in
    c.loop-cursor.invariant ∙ read_step one c.loop-cursor.state c.loop-cursor.cursor (c.in_ok-step.field-0, c.step.new.state) c.step.new.cursor sound some c.in_ok-step.ensures

pub returns-in_err-step : goal.returns-in_err-step
returns-in_err-step c =
    let one = step c.args.context.now in
    let some : 0 < length c.loop-cursor.cursor.bytes = omega (arith, c.left.ensures, c.loop-cursor-test.true) in
    let refused = c.loop-cursor.invariant ∙ read_refusal one c.loop-cursor.state c.loop-cursor.cursor c.in_err-step.field-0.0 some c.in_err-step.ensures in
    let p = err_from_is_err_and c.from_residual.result c.from_residual.ensures.1 in
    rw (p.1, p.2) refused

pub returns : goal.returns
returns c =
    let one = step c.args.context.now in
    c.loop-cursor.invariant ∙ read_end one c.loop-cursor.state c.loop-cursor.cursor (omega (arith, c.left.ensures, c.loop-cursor-test.false))

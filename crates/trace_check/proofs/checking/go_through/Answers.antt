use Rattle.std.proofs.Common.{subst, arith, take}
use Rattle.trace_check.specs.declared.next_line.NextLine.{NextLine}
use Rattle.trace_check.specs.NextLines.{IsReached}
use Rattle.trace_check.proofs.Reaching.{reached_first}
use Rattle.trace_check.proofs.Departing.{line_read, leaves_after_end, leaves_with_line, goes_through, all_gone}
use Rattle.trace_check.proofs.checking.go_through.Goals as goal

pub loop-index-init : goal.loop-index-init
loop-index-init c = reached_first c.args.sections.now c.args.memory.now c.args.regs.now

pub returns-in_default-clause-leaves : goal.returns-in_default-clause-leaves
returns-in_default-clause-leaves c =
    let lines = c.args.lines.now in
    let i = c.loop-index.index in
    let at = line_read lines i c.index-lines-index.result c.loop-index-test.true c.index-lines-index.is in
    let Reached : NextLine → Type 0 = IsReached c.args.sections.now c.args.memory.now c.args.regs.now (take i lines) in
    leaves_after_end c.args.sections.now c.args.memory.now c.args.regs.now lines i c.index-lines-index.result c.in_default.field-0 at (subst Reached c.in_default.is c.loop-index.invariant)

pub returns-in-None-clause-leaves : goal.returns-in-None-clause-leaves
returns-in-None-clause-leaves c =
    let lines = c.args.lines.now in
    let i = c.loop-index.index in
    let at = line_read lines i c.index-lines-index.result c.loop-index-test.true c.index-lines-index.is in
    let Reached : NextLine → Type 0 = IsReached c.args.sections.now c.args.memory.now c.args.regs.now (take i lines) in
    leaves_with_line c.args.sections.now c.args.memory.now c.args.regs.now lines i c.index-lines-index.result c.in-Frame.frame at (subst Reached c.in-Frame.is c.loop-index.invariant) c.in-None.ensures.only

pub loop-index-preserved : goal.loop-index-preserved
loop-index-preserved c =
    let lines = c.args.lines.now in
    let i = c.loop-index.index in
    let at = line_read lines i c.index-lines-index.result c.loop-index-test.true c.index-lines-index.is in
    let Reached : NextLine → Type 0 = IsReached c.args.sections.now c.args.memory.now c.args.regs.now (take i lines) in
    goes_through c.args.sections.now c.args.memory.now c.args.regs.now lines i c.index-lines-index.result c.in-Frame.frame c.in-Some.after at (subst Reached c.in-Frame.is c.loop-index.invariant) c.in-Some.ensures.next c.in-Some.ensures.only

pub returns-clause-reached : goal.returns-clause-reached
returns-clause-reached c = all_gone c.args.sections.now c.args.memory.now c.args.regs.now c.args.lines.now c.loop-index.index c.loop-index.next (omega (arith, c.loop-index-test.false)) c.loop-index.invariant

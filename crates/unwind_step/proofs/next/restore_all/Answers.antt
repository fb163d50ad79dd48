use Rattle.std.proofs.Common.{◌<◌, length, Ok, ◌∙◌, arith, subst}
use Rattle.std.proofs.lemmas.List.{length-set}
use Rattle.frame_rows.specs.Rules.{RuleData}
use Rattle.unwind_step.specs.Rules.{IsRestored}
use Rattle.unwind_step.proofs.Columns.{AreRestored-more}
use Rattle.unwind_step.proofs.next.restore_all.Goals as goal

pub loop-column-preserved : goal.loop-column-preserved
loop-column-preserved g c =
    let within : c.loop-column.column < length c.loop-column.columns = omega arith in
    let here = subst (λ (rule : RuleData). IsRestored c.loop-column.column rule c.args.cfa c.args.callee.now.regs.now.columns (g.M.WordSource.regions c.args.callee.now.memory.now) (Ok c.in_ok-columns.field-0)) c.rule-rule.ensures c.in_ok-columns.ensures in
    record {
      restored = AreRestored-more _ c.args.row.now c.args.cfa c.args.callee.now.regs.now.columns (g.M.WordSource.regions c.args.callee.now.memory.now) _ c.in_ok-columns.field-0 within c.loop-column.invariant.restored here;
      all = length-set c.loop-column.columns c.loop-column.column c.in_ok-columns.field-0 ∙ c.loop-column.invariant.all;
    }

use Rattle.frame_rows.specs.Columns.{cfa_at, rule_at}
use Rattle.unwind_step.proofs.OneOutcome.{one_outcome, same_outcome, same_rules}
use Rattle.unwind_step.proofs.next.step.Goals as goal

pub returns-clause-only : goal.returns-clause-only
returns-clause-only g c = λ other is.
    let row = is.is_row in
    let at = c.row_at-row.ensures in
    let same = same_rules is.row c.row_at-row.result (cfa_at row.initial row.steps c.args.look) (λ r. rule_at r row.initial row.steps c.args.look) row.cfa (at.cfa row.initial row.steps row.has_initial row.has_program) row.columns (at.columns row.initial row.steps row.has_initial row.has_program) in
    one_outcome c.one_answer.ensures c.row_at-row.result c.args.regs.now.columns (g.M.WordSource.regions c.args.memory.now) other c.follow.result (same_outcome is.row c.row_at-row.result c.args.regs.now.columns (g.M.WordSource.regions c.args.memory.now) other same is.is_step) c.follow.ensures

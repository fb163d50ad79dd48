use Rattle.std.proofs.Common.{◌+◌}
use Rattle.row_table.proofs.ManyRestored.{goes_on, stops}
use Rattle.row_table.proofs.following.TwiceColumns.restore.Goals as goal

pub returns-in-Frame-clause-restores : goal.returns-in-Frame-clause-restores
returns-in-Frame-clause-restores g c =
    let n = g.C.Columns.count in
    let half = rw c.in-Frame.is at c.restore.ensures.restores in
    goes_on c.args.by.now.row.now c.args.by.now.cfa (g.M.WordSource.regions c.args.by.now.memory.now) c.args.at.now c.restore.new.at n n c.args.regs.now.columns c.restore.new.regs.columns c.restore-in-Frame.result c.restore-in-Frame.new.regs.columns (c.restore.ensures.behind c.in-Frame.is) half c.restore-in-Frame.ensures.restores

pub returns-in_default : goal.returns-in_default
returns-in_default g c = record {
  restores = stops c.args.by.now.row.now c.args.by.now.cfa (g.M.WordSource.regions c.args.by.now.memory.now) c.args.at.now (c.args.at.now + g.C.Columns.count) (c.args.at.now + (g.C.Columns.count + g.C.Columns.count)) c.args.regs.now.columns c.restore.result c.restore.new.regs.columns c.in_default.not-Frame c.restore.ensures.restores;
  behind = λ is. absurd (c.in_default.not-Frame is);
  length = c.restore.ensures.length;
}

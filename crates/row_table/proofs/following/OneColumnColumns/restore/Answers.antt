use Rattle.std.proofs.Common.{arith}
use Rattle.row_table.proofs.ManyRestored.{restored_one}
use Rattle.row_table.proofs.following.OneColumnColumns.restore.Goals as goal

pub returns-clause-restores : goal.returns-clause-restores
returns-clause-restores g c =
    restored_one c.args.by.now.row.now c.args.by.now.cfa (g.M.WordSource.regions c.args.by.now.memory.now) c.args.at.now c.args.regs.now.columns c.restore.result c.restore.new.regs.columns c.rule_of.result.now (omega (arith, c.requires)) c.rule_of.ensures
    c.restore.ensures.restored c.restore.ensures.fails c.restore.ensures.others

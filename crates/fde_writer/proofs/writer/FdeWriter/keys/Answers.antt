use Rattle.fde_writer.proofs.Listed.{is_listed}
use Rattle.fde_writer.proofs.writer.FdeWriter.keys.Goals as goal

pub returns-clause-listed : goal.returns-clause-listed
returns-clause-listed c = is_listed c.args.self.now.stands

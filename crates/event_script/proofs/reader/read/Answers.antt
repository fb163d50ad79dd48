use Rattle.std.proofs.Common.{[]}
use Rattle.event_script.proofs.reader.read.Goals as goal

pub returns-clause-ok : goal.returns-clause-ok
returns-clause-ok c = c.finish.ensures.ok c.args.bytes.now (c.take.ensures [] c.new-reader.ensures)

pub returns-clause-bad : goal.returns-clause-bad
returns-clause-bad c = c.finish.ensures.bad c.args.bytes.now (c.take.ensures [] c.new-reader.ensures)

pub returns-clause-memory : goal.returns-clause-memory
returns-clause-memory c = c.finish.ensures.memory c.args.bytes.now (c.take.ensures [] c.new-reader.ensures)

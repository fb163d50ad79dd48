use Rattle.raise_phases.proofs.Tables.{answer_told}
use Rattle.raise_phases.proofs.lsda.verdict.Goals as goal

pub returns-clause-given : goal.returns-clause-given
returns-clause-given c = (answer_told c.args.first c.args.address c.args.bytes.now c.args.look c.args.kind c.verdict_by_parts.result c.verdict_by_parts.ensures).0

pub returns-clause-refused : goal.returns-clause-refused
returns-clause-refused c = (answer_told c.args.first c.args.address c.args.bytes.now c.args.look c.args.kind c.verdict_by_parts.result c.verdict_by_parts.ensures).1

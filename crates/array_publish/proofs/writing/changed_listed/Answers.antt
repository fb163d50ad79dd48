use Rattle.array_publish.proofs.Works.{spells_none}
use Rattle.array_publish.proofs.writing.changed_listed.Goals as goal

pub returns-then-index-place-2-clause-same : goal.returns-then-index-place-2-clause-same
returns-then-index-place-2-clause-same c = spells_none c.args.me.now

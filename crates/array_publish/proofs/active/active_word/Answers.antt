use Rattle.array_publish.proofs.Works.{loads_one}
use Rattle.array_publish.proofs.active.active_word.Goals as goal

pub returns-clause-loads : goal.returns-clause-loads
returns-clause-loads c = loads_one c.args.me.now _ _ c.load_copy.result c.load_copy.ensures.log

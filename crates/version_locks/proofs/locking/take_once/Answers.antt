use Rattle.word_rule.specs.CallerData.{CallerData}
use Rattle.version_locks.proofs.Tries.{takes, tries_none}
use Rattle.version_locks.proofs.locking.take_once.Goals as goal

pub returns-in-Ok : goal.returns-in-Ok
returns-in-Ok c =
    let old : CallerData = c.args.me.now in
    takes c.args.id old old c.take.new.me c.in-Ok.field-0 (tries_none c.args.id old) c.in-Ok.ensures.ok

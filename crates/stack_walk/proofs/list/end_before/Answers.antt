use Rattle.std.proofs.Common.{sym}
use Rattle.stack_walk.proofs.Ascending.{last_module_end}
use Rattle.stack_walk.proofs.list.end_before.Goals as goal

pub returns-in-Some : goal.returns-in-Some
returns-in-Some g c = rw (last_module_end c.args.modules.now c.in-Some.module.now (sym c.in-Some.ensures.value)) c.ends_before.ensures

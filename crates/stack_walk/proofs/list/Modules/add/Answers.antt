use Rattle.std.proofs.Common.{◌≤◌, sym, arith}
use Rattle.stack_walk.specs.Modules.{ModuleData, modules_end}
use Rattle.stack_walk.proofs.Ascending.{module_more}
use Rattle.stack_walk.proofs.list.Modules.add.Goals as goal

pub invariant_of-self-2 : goal.invariant_of-self-2
invariant_of-self-2 g c =
    let ms = c.self.inside.list.items in
    let m : ModuleData = record { first = c.args.first; size = c.args.size; section = g.T.StepSource.section c.args.source; refused = g.T.StepSource.refused c.args.source } in
    let last : modules_end ms ≤ c.args.first = rw (sym c.deref.ensures.value) c.if-not-end_before.ensures in
    let more = module_more 0 ms m c.self.invariant (omega arith) last in
    rw c.in_ok-push.ensures.items more

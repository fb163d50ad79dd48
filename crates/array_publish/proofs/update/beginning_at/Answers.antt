use Rattle.std.proofs.Common.{arith}
use Rattle.array_publish.proofs.Knowing.{known_at}
use Rattle.array_publish.proofs.Works.{loads_none}
use Rattle.array_publish.proofs.update.beginning_at.Goals as goal

pub returns-then-place-active-clause-loads : goal.returns-then-place-active-clause-loads
returns-then-place-active-clause-loads c = loads_none c.args.me.now

pub active_member-member-requires-clause-known : goal.active_member-member-requires-clause-known
active_member-member-requires-clause-known c =
    let inside = c.requires.inside in let at = c.if-place-active.false in
    known_at c.args.words.now c.args.active.now c.args.me.now c.args.place c.requires.knows (omega (arith, inside, at))

use Rattle.std.proofs.Common.{◌∙◌}
use Rattle.node_store.proofs.Outlined.{loads_hold}
use Rattle.tree_descent.proofs.BySights.{held_for}
use Rattle.tree_descent.proofs.by_sight.hold_seen.Goals as goal

pub returns-then-ends_inside-clause-ends : goal.returns-then-ends_inside-clause-ends
returns-then-ends_inside-clause-ends g c =
    let k2 = c.outline_of.new.me in let k3 = c.ends_inside.new.me in
    held_for c.args.words.now.terms c.args.request c.args.seen c.args.me.now c.lock_seen.new.me c.requires.terms c.requires.nothing c.requires.seen c.in-Ok.ensures.ok c.outline_of.result c.outline_of.ensures.spells k3 (loads_hold k2 k3 c.ends_inside.ensures.loads ∙ c.outline_of.ensures.holdings) (c.ends_inside.ensures.inside c.if-ends_inside.true)

use Rattle.std.proofs.Common.{sym, subst, arith}
use Rattle.btree_lookup.specs.Tries.{EndsOnWay}
use Rattle.btree_lookup.proofs.Visiting.{root_alone, root_changed, root_locked, root_never, root_seen}
use Rattle.btree_lookup.proofs.visit.root.Goals as goal

pub returns-then-version-ne0-clause-err : goal.returns-then-version-ne0-clause-err
returns-then-version-ne0-clause-err g c pc =
    let some = c.nodes-some.ensures.some in let nodes = c.nodes-some.ensures.value in
    subst (λ a. EndsOnWay c.args.words.now.terms pc (g.L.Looker.known c.args.me.now) a (g.L.Looker.known c.begin_sight-version.new.self)) (sym c.locked.ensures)
    (root_locked c.args.words.now.terms (g.L.Looker.known c.args.me.now) (omega (arith, some, nodes)) c.begin_sight-version.result (g.L.Looker.known c.begin_sight-version.new.self) c.begin_sight-version.ensures.log pc c.if-version-ne0.true)

pub returns-then-level-clause-err : goal.returns-then-level-clause-err
returns-then-level-clause-err g c pc =
    let some = c.nodes-some.ensures.some in let nodes = c.nodes-some.ensures.value in
    subst (λ a. EndsOnWay c.args.words.now.terms pc (g.L.Looker.known c.args.me.now) a (g.L.Looker.known c.load_version-second.new.self)) (sym c.changed.ensures)
    (root_changed c.args.words.now.terms (g.L.Looker.known c.args.me.now) (omega (arith, some, nodes)) c.begin_sight-version.result (g.L.Looker.known c.begin_sight-version.new.self) c.begin_sight-version.ensures.log (omega (arith, c.if-version-ne0.false)) c.begin_sight-version.ensures.held
    c.load_node-level.result (g.L.Looker.known c.load_node-level.new.self) c.load_node-level.ensures.log (g.L.Looker.known c.load_version-second.new.self) c.load_version-second.result c.if-level.true c.load_version-second.ensures.log c.load_version-second.ensures.tells pc)

pub returns-then-level-clause-alone : goal.returns-then-level-clause-alone
returns-then-level-clause-alone g c alone nothing =
    let some = c.nodes-some.ensures.some in let nodes = c.nodes-some.ensures.value in
    absurd (root_never c.args.words.now.terms (g.L.Looker.known c.args.me.now) (omega (arith, some, nodes)) c.begin_sight-version.result (g.L.Looker.known c.begin_sight-version.new.self) c.begin_sight-version.ensures.log (omega (arith, c.if-version-ne0.false)) c.begin_sight-version.ensures.held
    c.load_node-level.result (g.L.Looker.known c.load_node-level.new.self) c.load_node-level.ensures.log c.load_version-second.result c.if-level.true c.load_version-second.ensures.tells
    (root_alone c.args.words.now.terms (g.L.Looker.known c.args.me.now) (omega (arith, some, nodes)) c.begin_sight-version.result (g.L.Looker.known c.begin_sight-version.new.self) c.begin_sight-version.ensures.log (omega (arith, c.if-version-ne0.false)) c.begin_sight-version.ensures.held
    c.load_node-level.result (g.L.Looker.known c.load_node-level.new.self) c.load_node-level.ensures.log c.load_version-second.result alone c.load_version-second.ensures.alone))

pub returns-clause-ok : goal.returns-clause-ok
returns-clause-ok g c pc top =
    let some = c.nodes-some.ensures.some in let nodes = c.nodes-some.ensures.value in
    root_seen c.args.words.now.terms (g.L.Looker.known c.args.me.now) (omega (arith, some, nodes)) c.begin_sight-version.result (g.L.Looker.known c.begin_sight-version.new.self) c.begin_sight-version.ensures.log (omega (arith, c.if-version-ne0.false)) c.begin_sight-version.ensures.held
    c.load_node-level.result (g.L.Looker.known c.load_node-level.new.self) c.load_node-level.ensures.log pc top (omega (arith, c.if-level.false))

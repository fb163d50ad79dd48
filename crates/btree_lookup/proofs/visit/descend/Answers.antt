use Rattle.std.proofs.Common.{◌-◌, ◌<◌, IfSome, is_some, sym, ap, subst, arith}
use Rattle.btree_lookup.specs.Tries.{EndsOnWay}
use Rattle.btree_lookup.specs.Visits.{SeesChild}
use Rattle.btree_lookup.proofs.Visiting.{alone_same, fails_changed, never_again}
use Rattle.btree_lookup.proofs.Descending.{child_locked, child_unlocked, child_visited, parent_alone, parent_changed, parent_in_sight}
use Rattle.btree_lookup.proofs.visit.descend.Goals as goal

pub returns-in_default-clause-err : goal.returns-in_default-clause-err
returns-in_default-clause-err g c k way =
    let none = c.child_for.ensures.none k c.requires.above way (ap is_some c.in_default.is) in let above = c.requires.above in
    subst (λ a. EndsOnWay c.args.words.now.terms c.args.pc k a (g.L.Looker.known c.load_version-second.new.self)) (sym c.changed.ensures)
    (fails_changed c.args.words.now.terms c.args.pc k c.args.visit 17 (g.L.Looker.known c.child_for.new.me) none.sees (g.L.Looker.known c.load_version-second.new.self) c.load_version-second.result (omega (arith, above)) c.load_version-second.ensures.log
    (never_again c.args.words.now.terms c.args.pc k c.args.visit 17 (g.L.Looker.known c.child_for.new.me) none.sees c.load_version-second.result none.never c.load_version-second.ensures.tells))

pub returns-in_default-clause-alone : goal.returns-in_default-clause-alone
returns-in_default-clause-alone g c k way alone nothing =
    let none = c.child_for.ensures.none k c.requires.above way (ap is_some c.in_default.is) in
    absurd (never_again c.args.words.now.terms c.args.pc k c.args.visit 17 (g.L.Looker.known c.child_for.new.me) none.sees c.load_version-second.result none.never c.load_version-second.ensures.tells
    (alone_same c.args.words.now.terms c.args.pc k c.args.visit 17 (g.L.Looker.known c.child_for.new.me) none.sees c.load_version-second.result alone c.load_version-second.ensures.alone))

pub returns-then-version-ne0-clause-err : goal.returns-then-version-ne0-clause-err
returns-then-version-ne0-clause-err g c k way =
    let child = subst (λ o. IfSome o (λ child. SeesChild c.args.words.now.terms c.args.pc k c.args.visit c.args.count child (g.L.Looker.known c.child_for.new.me))) c.in-Some.is (c.child_for.ensures.child k c.requires.above way) in
    let inside = subst (λ o. IfSome o (λ child. child < c.args.words.now.terms.nodes)) c.in-Some.is c.child_for.ensures.inside in
    subst (λ a. EndsOnWay c.args.words.now.terms c.args.pc k a (g.L.Looker.known c.begin_sight-version.new.self)) (sym c.locked.ensures)
    (child_locked c.args.words.now.terms c.args.pc k c.args.visit c.args.count c.in-Some.node (g.L.Looker.known c.child_for.new.me) child inside c.begin_sight-version.result (g.L.Looker.known c.begin_sight-version.new.self) c.begin_sight-version.ensures.log c.if-version-ne0.true)

pub returns-then-version-ne0-clause-alone : goal.returns-then-version-ne0-clause-alone
returns-then-version-ne0-clause-alone g c k way alone nothing =
    let child = subst (λ o. IfSome o (λ child. SeesChild c.args.words.now.terms c.args.pc k c.args.visit c.args.count child (g.L.Looker.known c.child_for.new.me))) c.in-Some.is (c.child_for.ensures.child k c.requires.above way) in
    let inside = subst (λ o. IfSome o (λ child. child < c.args.words.now.terms.nodes)) c.in-Some.is c.child_for.ensures.inside in
    absurd (c.if-version-ne0.true (child_unlocked c.args.words.now.terms c.args.pc k c.args.visit c.args.count c.in-Some.node (g.L.Looker.known c.child_for.new.me) child inside c.begin_sight-version.result (g.L.Looker.known c.begin_sight-version.new.self) c.begin_sight-version.ensures.log alone nothing c.begin_sight-version.ensures.alone))

pub returns-then-second-visit-clause-err : goal.returns-then-second-visit-clause-err
returns-then-second-visit-clause-err g c k way =
    let child = subst (λ o. IfSome o (λ child. SeesChild c.args.words.now.terms c.args.pc k c.args.visit c.args.count child (g.L.Looker.known c.child_for.new.me))) c.in-Some.is (c.child_for.ensures.child k c.requires.above way) in
    let inside = subst (λ o. IfSome o (λ child. child < c.args.words.now.terms.nodes)) c.in-Some.is c.child_for.ensures.inside in
    subst (λ a. EndsOnWay c.args.words.now.terms c.args.pc k a (g.L.Looker.known c.load_version-second-2.new.self)) (sym c.changed-then-second-visit.ensures)
    (parent_changed c.args.words.now.terms c.args.pc k c.args.visit c.args.count c.in-Some.node (g.L.Looker.known c.child_for.new.me) child inside c.begin_sight-version.result (g.L.Looker.known c.begin_sight-version.new.self) c.begin_sight-version.ensures.log (omega (arith, c.if-version-ne0.false)) c.load_version-second-2.result (g.L.Looker.known c.load_version-second-2.new.self) c.load_version-second-2.ensures.log (λ e. c.if-second-visit.true (sym e)))

pub returns-then-second-visit-clause-alone : goal.returns-then-second-visit-clause-alone
returns-then-second-visit-clause-alone g c k way alone nothing =
    let child = subst (λ o. IfSome o (λ child. SeesChild c.args.words.now.terms c.args.pc k c.args.visit c.args.count child (g.L.Looker.known c.child_for.new.me))) c.in-Some.is (c.child_for.ensures.child k c.requires.above way) in
    let inside = subst (λ o. IfSome o (λ child. child < c.args.words.now.terms.nodes)) c.in-Some.is c.child_for.ensures.inside in
    absurd (c.if-second-visit.true (sym (parent_alone c.args.words.now.terms c.args.pc k c.args.visit c.args.count c.in-Some.node (g.L.Looker.known c.child_for.new.me) child inside c.begin_sight-version.result (g.L.Looker.known c.begin_sight-version.new.self) c.begin_sight-version.ensures.log (omega (arith, c.if-version-ne0.false)) c.load_version-second-2.result (g.L.Looker.known c.load_version-second-2.new.self) c.load_version-second-2.ensures.log alone c.load_version-second-2.ensures.alone)))

pub returns-clause-ok : goal.returns-clause-ok
returns-clause-ok g c k way =
    let child = subst (λ o. IfSome o (λ child. SeesChild c.args.words.now.terms c.args.pc k c.args.visit c.args.count child (g.L.Looker.known c.child_for.new.me))) c.in-Some.is (c.child_for.ensures.child k c.requires.above way) in
    let inside = subst (λ o. IfSome o (λ child. child < c.args.words.now.terms.nodes)) c.in-Some.is c.child_for.ensures.inside in
    let above = c.requires.above in
    child_visited c.args.words.now.terms c.args.pc k c.args.visit c.args.count c.in-Some.node (g.L.Looker.known c.child_for.new.me) child inside c.begin_sight-version.result (g.L.Looker.known c.begin_sight-version.new.self) c.begin_sight-version.ensures.log (omega (arith, c.if-version-ne0.false)) c.load_version-second-2.result (g.L.Looker.known c.load_version-second-2.new.self) c.load_version-second-2.ensures.log c.if-second-visit.false c.begin_sight-version.ensures.held (c.args.visit.level - 1) (omega (arith, above))

pub returns-clause-kept : goal.returns-clause-kept
returns-clause-kept g c k way =
    let child = subst (λ o. IfSome o (λ child. SeesChild c.args.words.now.terms c.args.pc k c.args.visit c.args.count child (g.L.Looker.known c.child_for.new.me))) c.in-Some.is (c.child_for.ensures.child k c.requires.above way) in
    let inside = subst (λ o. IfSome o (λ child. child < c.args.words.now.terms.nodes)) c.in-Some.is c.child_for.ensures.inside in
    (child.other, parent_in_sight c.args.words.now.terms c.args.pc k c.args.visit c.args.count c.in-Some.node (g.L.Looker.known c.child_for.new.me) child inside c.begin_sight-version.result (g.L.Looker.known c.begin_sight-version.new.self) c.begin_sight-version.ensures.log (omega (arith, c.if-version-ne0.false)) c.load_version-second-2.result (g.L.Looker.known c.load_version-second-2.new.self) c.load_version-second-2.ensures.log c.if-second-visit.false c.begin_sight-version.ensures.held)

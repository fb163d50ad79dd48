use Rattle.std.proofs.Common.{sym, subst, true, IfErr}
use Rattle.tree_shape.specs.NodeData.{IsInFences}
use Rattle.version_locks.specs.Locking.{FoundBusy}
use Rattle.tree_descent.specs.Releases.{Spends}
use Rattle.btree_change.proofs.RemovalAnswers.{under_left, under_may, left_cause, left_spends}
use Rattle.btree_change.proofs.removal.mend.Goals.{in-Ok, in-Err}
use Rattle.btree_change.proofs.removal.mend.Goals as goal

pub let_go_of-requires-clause-may : goal.let_go_of-requires-clause-may
let_go_of-requires-clause-may g c = under_may c.args.words.now.terms c.args.x.above.node true c.share-below.result c.share-below.new.me.log.holdings c.share-below.ensures.mends.holds

pub returns-then-sinks-clause-cause : goal.returns-then-sinks-clause-cause
returns-then-sinks-clause-cause g c =
    let k = c.args.me.now in elim c.match-sink.branch [
      | in-Ok w ↦ subst (λ r. IfErr r (λ e. FoundBusy e k c.match-sink.me)) (sym w.result-is) tt
      | in-Err w ↦ subst (λ r. IfErr r (λ e. FoundBusy e k c.match-sink.me)) (sym w.result-is) (subst (FoundBusy w.in-Err.busy k) (sym w.me-is) (left_cause c.args.x w.in-Err.busy k c.sink.new.me w.let_go_of-in-Err.new.me w.in-Err.ensures.lost.0 w.let_go_of-in-Err.ensures))
    ]

pub returns-then-sinks-clause-most : goal.returns-then-sinks-clause-most
returns-then-sinks-clause-most g c =
    let k = c.args.me.now in elim c.match-sink.branch [
      | in-Ok w ↦ subst (λ r. IfErr r (λ e. Spends 3 k c.match-sink.me)) (sym w.result-is) tt
      | in-Err w ↦ subst (λ r. IfErr r (λ e. Spends 3 k c.match-sink.me)) (sym w.result-is) (subst (Spends 3 k) (sym w.me-is) (left_spends c.args.x w.in-Err.busy k c.sink.new.me w.let_go_of-in-Err.new.me w.in-Err.ensures.lost.0 w.let_go_of-in-Err.ensures))
    ]

pub let_go_of-requires-in-Ok-join-clause-may : goal.let_go_of-requires-in-Ok-join-clause-may
let_go_of-requires-in-Ok-join-clause-may g c = under_may c.args.words.now.terms c.args.x.above.node true c.in-Ok-join.below c.join.new.me.log.holdings c.in-Ok-join.ensures.mends.0.holds

pub returns-in-Ok-join-clause-ok : goal.returns-in-Ok-join-clause-ok
returns-in-Ok-join-clause-ok g c =
    let mends = c.in-Ok-join.ensures.mends in
    ((under_left c.args.words.now.terms c.args.x.above.node true c.in-Ok-join.below c.join.new.me c.let_go_of-in-Ok-join.new.me mends.0.holds c.let_go_of-in-Ok-join.ensures, subst (IsInFences c.args.pc) (sym mends.1) c.requires.between, mends.0.spare), mends.0.level)

pub returns-clause-cause : goal.returns-clause-cause
returns-clause-cause g c = left_cause c.args.x c.in-Err-join.busy c.args.me.now c.join.new.me c.let_go_of-in-Err-join.new.me c.in-Err-join.ensures.lost.0 c.let_go_of-in-Err-join.ensures

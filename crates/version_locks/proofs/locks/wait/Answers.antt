use Rattle.std.proofs.Common.{sym, subst}
use Rattle.word_rule.specs.CallerData.{CallerData}
use Rattle.version_locks.specs.Locking.{Tries}
use Rattle.version_locks.proofs.Tries.{tries_both, tries_load, tries_marked, tries_none}
use Rattle.version_locks.proofs.locks.wait.Goals as goal
use Rattle.version_locks.proofs.locks.wait.Goals.{then-seen-eq-LOCKED+in_default, else-seen-eq-LOCKED}

pub returns-in-Err : goal.returns-in-Err
returns-in-Err g c = tries_load c.args.lock c.args.me.now c.args.me.now c.mark_sleeping.new.me c.in-Err.found (tries_none c.args.lock c.args.me.now) c.in-Err.ensures.err.1

pub returns : goal.returns
returns g c =
    let old : CallerData = c.args.me.now in
    let P : CallerData → Type 0 = λ k. Tries c.args.lock old k in
    let marked : P c.if-seen-eq-LOCKED.me = elim c.if-seen-eq-LOCKED.branch [
      | then-seen-eq-LOCKED+in_default w ↦ subst P (sym w.me-is) (tries_marked c.args.lock old w.mark_sleeping.new.me c.args.seen w.mark_sleeping.result w.mark_sleeping.ensures.ok w.mark_sleeping.ensures.err)
      | else-seen-eq-LOCKED w ↦ subst P (sym w.me-is) (tries_none c.args.lock old)
    ] in
    tries_both c.args.lock old c.if-seen-eq-LOCKED.me c.load_word.new.me marked c.load_word.ensures

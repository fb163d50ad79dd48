use Rattle.std.proofs.Common.{◌∙◌, sym, subst}
use Rattle.word_rule.specs.CallerData.{CallerData}
use Rattle.version_locks.specs.Locking.{Locks, Tries}
use Rattle.version_locks.proofs.Tries.{tries_both, tries_table, takes, takes_then}
use Rattle.version_locks.proofs.locks.lock.Goals as goal
use Rattle.version_locks.proofs.locks.lock.Goals.{then-slept, else-slept}

pub returns-in-Ok : goal.returns-in-Ok
returns-in-Ok g c =
    let old : CallerData = c.args.me.now in
    let took : Locks c.args.lock old c.try_lock.new.me = takes c.args.lock old c.loop.me c.try_lock.new.me c.loop.seen c.loop.invariant.tries c.in-Ok.ensures.ok in
    let P : CallerData → Type 0 = λ k. Locks c.args.lock old k in
    elim c.if-slept.branch [ then-slept w ↦ subst P (sym w.me-is) (takes_then c.args.lock old c.try_lock.new.me w.mark_again.new.me took w.mark_again.ensures) | else-slept w ↦ subst P (sym w.me-is) took ]

pub loop-preserved-then-is_completed : goal.loop-preserved-then-is_completed
loop-preserved-then-is_completed g c = record {
  tries = tries_both _ _ _ _ c.loop.invariant.tries c.wait-seen.ensures;
  table = tries_table _ _ _ c.wait-seen.ensures ∙ c.loop.invariant.table;
}

pub loop-init : goal.loop-init
loop-init g c =
    let old : CallerData = c.args.me.now in
    let tries : Tries c.args.lock old c.load_word-seen.new.me = c.load_word-seen.ensures in
    record { tries = tries; table = tries_table c.args.lock old c.load_word-seen.new.me tries ∙ c.requires.table }

pub loop-preserved : goal.loop-preserved
loop-preserved g c =
    let old : CallerData = c.args.me.now in
    let again = c.load_word-seen-else-is_completed in
    let tries : Tries c.args.lock old again.new.me = tries_both c.args.lock old c.loop.me again.new.me c.loop.invariant.tries again.ensures in
    record { tries = tries; table = tries_table c.args.lock old again.new.me tries ∙ c.requires.table }

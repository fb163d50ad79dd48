use Rattle.std.proofs.Common.{◌≡◌, subst, sym}
use Rattle.word_rule.specs.CallerData.{CallerData}
use Rattle.word_rule.specs.VersionLocks.{after_version}
use Rattle.word_rule.specs.declared.log.Ask.TheVariants as ask
use Rattle.word_rule.specs.declared.log.LockId.{LockId}
use Rattle.word_rule.specs.declared.log.LockId.TheVariants as lock
use Rattle.version_locks.specs.Locking.{Tries}
use Rattle.version_locks.proofs.Tries.{tries_begin, tries_load, tries_none}
use Rattle.version_locks.proofs.locks.load_word.Goals as goal

pub returns-in-Loader : goal.returns-in-Loader
returns-in-Loader c =
    let old : CallerData = c.args.me.now in
    let P : LockId → Type 0 = λ z. c.load_version.new.me ≡ record old { log = after_version ask.Nothing z c.load_version.result old.log } in
    subst (λ z. Tries z old c.load_version.new.me) (sym c.in-Loader.is) (tries_load lock.Loader old old c.load_version.new.me c.load_version.result (tries_none lock.Loader old) (subst P c.in-Loader.is c.load_version.ensures.log))

pub returns-in-Node : goal.returns-in-Node
returns-in-Node c = subst (λ z. Tries z c.args.me.now c.begin_sight.new.me) (sym c.in-Node.is) (tries_begin c.in-Node.node c.args.me.now c.begin_sight.new.me c.begin_sight.result c.begin_sight.ensures.log)

-- What a try of an update that was begun makes of its caller.
use Rattle.std.specs.Prelude.{◌≡◌, ℕ, ◌<◌, ◌≤◌, Bool, true, Result, IfErr, OnErr, OnOk}
use Rattle.array_publish.specs.Update.{IsFreeAgain, TellsLoad, TellsUnload}
use Rattle.tree_descent.specs.Updates.{GivesUp}
use Rattle.version_locks.specs.Locking.{IsBusyAt, UnlessLost}
use Rattle.version_locks.specs.declared.locking.Busy.{Busy}
use Rattle.reg_model.specs.declared.answer.Loading.{Loading}
use Rattle.reg_model.specs.declared.answer.Loading.TheVariants as loading
use Rattle.reg_model.specs.declared.answer.Removed.{Removed}
use Rattle.reg_model.specs.declared.answer.Removed.TheVariants as removed
use Rattle.reg_model.specs.declared.span.Member.{Member}
use Rattle.word_rule.specs.CallerData.{CallerData, WordsData, due, surplus}
use Rattle.word_rule.specs.Callers.{IsIdle}
use Rattle.word_rule.specs.Places.{CALL_CREDIT}
use Rattle.word_rule.specs.declared.log.LockId.TheVariants as lock
use Rattle.word_rule.specs.declared.log.Terms.{Terms}

-- What a try of an update of the tree makes of its caller, whatever came of it.
pub record TriesUpdate {A : Type 0} (w : WordsData) (gives_up : Bool) (outcome : Result A Busy)
    (k k' : CallerData) : Type 0 where
  pub terms : CALL_CREDIT ≤ surplus k → k.log.terms ≡ w.terms
  pub table : k'.table ≡ k.table
  pub idle : OnOk outcome (IsIdle k'.log)
  -- where it gave up: its cause, the call is still begun, and may be tried again
  pub busy : IfErr outcome (λ why. (CALL_CREDIT ≤ surplus k) × GivesUp why k k'
      × (gives_up ≡ true))
  pub begun : OnErr outcome (0 < due k')
  pub again : IfErr outcome (λ why. UnlessLost why (IsIdle k'.log))

-- What a try of an update of the loader makes of its caller, whatever came of it: where it gave up,
-- the loader's lock was found taken.
pub record TriesLoading {A : Type 0} (w : WordsData) (gives_up : Bool) (outcome : Result A Busy)
    (k k' : CallerData) : Type 0 where
  pub terms : OnOk outcome (CALL_CREDIT ≤ surplus k → k.log.terms ≡ w.terms)
  pub busy : IfErr outcome (λ why. (CALL_CREDIT ≤ surplus k) × IsBusyAt lock.Loader why k k'
      × (gives_up ≡ true))
  pub free : IsFreeAgain k k'

-- A load that was answered. Spent where the caller has fewer releases to spare than a call may
-- make, and then nothing was done.
abbrev pub TriesLoad : Terms → Member → CallerData → CallerData → Loading → Type 0
TriesLoad t m k k' loading.Spent = (surplus k < CALL_CREDIT) × (k' ≡ k)
TriesLoad t m k k' answer = (CALL_CREDIT ≤ surplus k) × TellsLoad t m k k' answer

-- The same of an unload.
abbrev pub TriesUnload : Terms → ℕ → CallerData → CallerData → Removed → Type 0
TriesUnload t base k k' removed.Spent = (surplus k < CALL_CREDIT) × (k' ≡ k)
TriesUnload t base k k' answer = (CALL_CREDIT ≤ surplus k) × TellsUnload t base k k' answer

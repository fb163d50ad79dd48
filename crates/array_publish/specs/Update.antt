-- What an update of the loader asks of its caller and makes of it.
use Rattle.std.specs.Prelude.{◌≡◌, ℕ, ◌+◌, ◌-◌, ◌<◌, ◌≤◌, Bool, true, false, if◌then◌else◌, List}
use Rattle.std.specs.Prelude.{[], ◌∷◌, ◌++◌, length, Option, Some, None, IsNone, IsSomeAnd}
use Rattle.std.specs.Prelude.{Result, IfErr, OnOk}
use Rattle.std.specs.List.{AllByRecursion}
use mathlib.Core.List.{IsPrefix}
use Rattle.reg_model.specs.State.{IsFree, IsLowestOverlap, at_base, objects}
use Rattle.reg_model.specs.History.{state_after}
use Rattle.reg_model.specs.declared.answer.Loading.{Loading}
use Rattle.reg_model.specs.declared.answer.Loading.TheVariants as loading
use Rattle.reg_model.specs.declared.answer.Removed.{Removed}
use Rattle.reg_model.specs.declared.answer.Removed.TheVariants as removed
use Rattle.reg_model.specs.declared.answer.Receipt.{Receipt}
use Rattle.reg_model.specs.declared.answer.Receipt.TheVariants as receipt
use Rattle.reg_model.specs.declared.answer.Update.{Update}
use Rattle.reg_model.specs.declared.answer.Update.TheVariants as update
use Rattle.reg_model.specs.declared.span.Member.{Member}
use Rattle.array_publish.specs.declared.active.ActiveCopy.{ActiveCopy}
use Rattle.word_rule.specs.declared.log.LoadEvent.{LoadEvent}
use Rattle.version_locks.specs.Locking.{IsBusyAt}
use Rattle.version_locks.specs.declared.locking.Busy.{Busy}
use Rattle.word_rule.specs.declared.log.LockId.TheVariants as lock
use Rattle.word_rule.specs.declared.log.LoaderHolding.{LoaderHolding}
use Rattle.word_rule.specs.declared.log.Log.{Log}
use Rattle.word_rule.specs.declared.log.Sights.{Sights}
use Rattle.word_rule.specs.declared.log.Terms.{Terms}
use Rattle.word_rule.specs.CallerData.{CallerData, WordsData, due, surplus}
use Rattle.word_rule.specs.Callers.{IsMemberOf, start}
use Rattle.word_rule.specs.Copies.{IsBehind, ListsAll}
use Rattle.word_rule.specs.Logs.{after_loader_release, after_loader_release_same}
use Rattle.word_rule.specs.Places.{copy_words}
use Rattle.array_publish.specs.Holders.{HasStarts, IsHolder, active_words, after_work, spare_words}

-- What an update of the loader asks of its caller: it is one of these words, and doesn't hold the
-- loader's lock.
pub record MayLoad (w : WordsData) (k : CallerData) : Type 0 where
  pub table : k.table ≡ w.table
  pub free : k.log.loader ≡ None

-- What an update of the loader that was begun asks of its caller: a release is to spare.
pub record MayTryLoad (w : WordsData) (k : CallerData) : Type 0 where
  pub caller : MayLoad w k
  pub begun : 0 < due k
  pub spare : 0 < surplus k

-- the lock of the loader is held, and both copies have all their words
abbrev pub HoldsCopies : Terms → CallerData → Type 0
HoldsCopies t k = IsSomeAnd k.log.loader
    (λ h. (length h.active ≡ copy_words t) × (length h.spare ≡ copy_words t))

-- nothing was stored under the lock
abbrev pub IsClean : CallerData → Type 0
IsClean k = IsSomeAnd k.log.loader (λ h. h.stored ≡ false)

-- What the holder knows of the active copy: it lists the loaded members of the history that was
-- seen, so many.
pub record KnowsCopy (w : WordsData) (a : ActiveCopy) (k : CallerData) : Type 0 where
  pub holder : IsHolder w a.starts.copy k
  pub places : HasStarts w.terms a.starts
  pub listing : ListsAll (active_words k.log.loader)
      (state_after (start w.terms) k.log.past).loaded
  pub count : a.count ≡ length listing.members
  pub known : AllByRecursion (IsMemberOf w.terms) listing.members
  pub room : a.count ≤ w.terms.loads

-- What a write of the other copy asks of its caller: it knows the active one, and the other is one
-- publication behind.
pub record MayWrite (w : WordsData) (a : ActiveCopy) (k : CallerData) : Type 0 where
  pub knows : KnowsCopy w a k
  pub behind : IsBehind w.terms (active_words k.log.loader) (spare_words k.log.loader)

-- a log after work under the lock, which has seen this much
abbrev pub after_seeing : List Update → List LoadEvent → ℕ → Sights → List ℕ → Bool → Log → Log
after_seeing past more stores sights spare stored v =
    record (after_work more stores sights spare stored v) { past = past }

-- Words were loaded and stored under the lock, and maybe more of the history was seen.
abbrev pub Works : CallerData → CallerData → Type 0
Works k k' = (past : List Update) × (more : List LoadEvent) × (stores : ℕ) × (sights : Sights)
    × (spare : List ℕ) × (stored : Bool) × (IsPrefix k.log.past past
    × (k' ≡ record k { log = after_seeing past more stores sights spare stored k.log }))

-- what an accepted update takes of an allowance, and its release of a credit
abbrev pub one_if : Bool → ℕ
one_if accepted = if accepted then 1 else 0

-- a log after an update was answered with this receipt, accepted or not
abbrev pub after_answer : List Update → List LoadEvent → ℕ → Sights → Option LoaderHolding
    → Receipt → Bool → Log → Log
after_answer past more stores sights loader r accepted v = record v {
  past = past;
  budget = record v.budget { allowance = v.budget.allowance - one_if accepted };
  receipts = record v.receipts { own = v.receipts.own ++ r ∷ [] };
  trace = record v.trace {
    loads = v.trace.loads ++ more;
    writes = v.trace.writes + stores;
  };
  sights = sights;
  loader = loader;
}

-- The answer to a load is right, where `seen` was the history before and `past` is it afterwards.
abbrev pub IsRightLoad : Terms → Member → List Update → List Update → Loading → Type 0
IsRightLoad t m seen past (loading.Done number) = (before : List Update) × (IsPrefix seen before
    × (past ≡ before ++ update.Load m ∷ []) × (number ≡ length past))
IsRightLoad t m seen past (loading.Overlap other stamp) = IsPrefix seen past
    × (stamp ≡ length past)
    × IsLowestOverlap m.span (objects (state_after (start t) past)) other × IsMemberOf t other
IsRightLoad t m seen past (loading.LoadFull stamp) = IsPrefix seen past
    × (stamp ≡ length past)
    × IsFree m.span (objects (state_after (start t) past))
    × (length (state_after (start t) past).loaded ≡ t.loads)
IsRightLoad t m seen past loading.Spent = ⊥

abbrev pub is_loaded : Loading → Bool
is_loaded (loading.Done number) = true
is_loaded _ = false

-- The answer to an unload is right.
abbrev pub IsRightUnload : Terms → ℕ → List Update → List Update → Removed → Type 0
IsRightUnload t base seen past (removed.Done number m) = (before : List Update)
    × (IsPrefix seen before × (past ≡ before ++ update.Unload base ∷ []) × (number ≡ length past)
    × (at_base base (state_after (start t) before).loaded ≡ Some m) × IsMemberOf t m)
IsRightUnload t base seen past (removed.NotFound stamp) = IsPrefix seen past
    × (stamp ≡ length past) × IsNone (at_base base (state_after (start t) past).loaded)
IsRightUnload t base seen past removed.Spent = ⊥

abbrev pub is_unloaded : Removed → Bool
is_unloaded (removed.Done number m) = true
is_unloaded _ = false

-- An update was answered under the lock, which is still held. Nothing was stored under it, or since
-- the update was published.
abbrev pub AnswersWith : (List Update → Type 0) → Receipt → Bool → CallerData → CallerData
    → Type 0
AnswersWith right r accepted k k' = (past : List Update) × (more : List LoadEvent) × (stores : ℕ)
    × (sights : Sights) × (h : LoaderHolding) × (right past
    × (k' ≡ record k { log = after_answer past more stores sights (Some h) r accepted k.log })
    × (h.stored ≡ false))

abbrev pub AnswersLoad : Terms → Member → CallerData → CallerData → Loading → Type 0
AnswersLoad t m k k' answer = AnswersWith (λ past. IsRightLoad t m k.log.past past answer)
    (receipt.Load m answer) (is_loaded answer) k k'

abbrev pub AnswersUnload : Terms → ℕ → CallerData → CallerData → Removed → Type 0
AnswersUnload t base k k' answer = AnswersWith
    (λ past. IsRightUnload t base k.log.past past answer) (receipt.Unload base answer)
    (is_unloaded answer) k k'

-- the loader's lock is let go: with the next version after a publication, else with the same one
abbrev pub after_letting_go : Bool → Log → Log
after_letting_go true v = after_loader_release v
after_letting_go false v = after_loader_release_same v

-- A log after an update call: answered with this receipt, accepted or not, the lock let go.
abbrev pub after_call : List Update → List LoadEvent → ℕ → Sights → Receipt → Bool → Log → Log
after_call past more stores sights r accepted v =
    let answered = after_answer past more stores sights None r accepted v in
    record answered {
      budget = record answered.budget { credit = v.budget.credit - one_if accepted };
    }

-- what an update call leaves of its caller: it holds no lock, as before
pub record IsFreeAgain (k k' : CallerData) : Type 0 where
  pub table : k'.table ≡ k.table
  pub loader : k'.log.loader ≡ None
  pub holdings : k'.log.holdings ≡ k.log.holdings
  pub lineage : k'.log.lineage ≡ k.log.lineage

-- What an update that waits leaves of its caller: its terms are those of the words, where an update
-- call was left, and it holds no lock.
pub record EndsUpdate (w : WordsData) (k k' : CallerData) : Type 0 where
  pub terms : 0 < k.left → k.log.terms ≡ w.terms
  pub free : IsFreeAgain k k'

-- What a try of one that was begun leaves of its caller, whatever came of it: where it gave up, the
-- loader's lock was found taken.
pub record EndsTry {A : Type 0} (w : WordsData) (gives_up : Bool) (outcome : Result A Busy)
    (k k' : CallerData) : Type 0 where
  pub terms : OnOk outcome (k.log.terms ≡ w.terms)
  pub busy : IfErr outcome (λ why. IsBusyAt lock.Loader why k k' × (gives_up ≡ true))
  pub free : IsFreeAgain k k'

-- An update call that was begun was answered so, and nothing else of the caller changed.
abbrev pub CallsWith : (List Update → Type 0) → Receipt → Bool → CallerData → CallerData → Type 0
CallsWith right r accepted k k' = (past : List Update) × (more : List LoadEvent) × (stores : ℕ)
    × (sights : Sights) × (right past × (k' ≡ record k {
      log = after_call past more stores sights r accepted k.log;
    }))

-- A load that was begun: it is answered as the state is after all of the history that is seen then.
abbrev pub TellsLoad : Terms → Member → CallerData → CallerData → Loading → Type 0
TellsLoad t m k k' answer = CallsWith (λ past. IsRightLoad t m k.log.past past answer)
    (receipt.Load m answer) (is_loaded answer) k k'

-- The same of an unload.
abbrev pub TellsUnload : Terms → ℕ → CallerData → CallerData → Removed → Type 0
TellsUnload t base k k' answer = CallsWith (λ past. IsRightUnload t base k.log.past past answer)
    (receipt.Unload base answer) (is_unloaded answer) k k'

-- a caller that began an update call
abbrev pub begun : CallerData → CallerData
begun k = record k { left = k.left - 1 }

-- A load, begun and answered. Or no update call is left, and nothing was done.
abbrev pub LoadsMember : Terms → Member → CallerData → CallerData → Loading → Type 0
LoadsMember t m k k' loading.Spent = (k.left ≡ 0) × (k' ≡ k)
LoadsMember t m k k' answer = (0 < k.left) × TellsLoad t m (begun k) k' answer

-- The same of an unload.
abbrev pub UnloadsMember : Terms → ℕ → CallerData → CallerData → Removed → Type 0
UnloadsMember t base k k' removed.Spent = (k.left ≡ 0) × (k' ≡ k)
UnloadsMember t base k k' answer = (0 < k.left) × TellsUnload t base (begun k) k' answer

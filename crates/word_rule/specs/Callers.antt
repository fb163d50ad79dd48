-- What holds of the shared words and of all callers' logs between any two steps: the callers and
-- the loader's lock.
use Rattle.std.specs.Prelude.{◌≡◌, ℕ, ◌+◌, ◌<◌, ◌≤◌, ◌%◌, ◌⊎◌, Bool, List, [], ◌∷◌, length}
use Rattle.std.specs.Prelude.{◌&&◌, nat_le, ◌^◌, Option, Some, None, IfSome, true, false}
use Rattle.std.specs.List.{AllByRecursion, sum_by, count_by}
use mathlib.Core.Option.{some}
use mathlib.Core.List.{IsPrefix}
use lib.ListN.{get_elem?}
use Rattle.reg_model.specs.State.{State, opening}
use Rattle.reg_model.specs.SpanData.{IsSpan}
use Rattle.reg_model.specs.declared.span.Member.{Member}
use Rattle.reg_model.specs.History.{IsHistory}
use Rattle.reg_model.specs.Receipt.{AllHold, AreInOrder}
use Rattle.reg_model.specs.Numbers.{has_number}
use Rattle.reg_model.specs.declared.answer.Update.{Update}
use Rattle.reg_model.specs.declared.answer.Update.TheVariants.{Register, Deregister, Replace}
use Rattle.reg_model.specs.declared.answer.Update.TheVariants.{Load, Unload}
use Rattle.segment_array.specs.Ascending.{AscendFrom}
use Rattle.tree_laws.specs.Numbers.{once}
use Rattle.word_rule.specs.declared.log.Terms.{Terms}
use Rattle.word_rule.specs.declared.log.ReceiptList.{ReceiptList}
use Rattle.word_rule.specs.declared.log.Receipts.{Receipts}
use Rattle.word_rule.specs.declared.log.Lineage.{Lineage}
use Rattle.word_rule.specs.declared.log.LoaderHolding.{LoaderHolding}
use Rattle.word_rule.specs.declared.log.Log.{Log}
use Rattle.word_rule.specs.Copies.{IsBehind}
use Rattle.word_rule.specs.Logs.{is_gone, is_nameless, own_list, weight}
use Rattle.word_rule.specs.SharedWords.{SharedWords, counters}
use Rattle.word_rule.specs.Places.{ALLOWANCE, CREDIT, lower, upper, spare}
use Rattle.word_rule.specs.Shares.{WHOLE}

-- a number of each log, added up
abbrev pub total : (Log → ℕ) → List Log → ℕ
total f [] = 0
total f (v ∷ views) = f v + total f views

-- the state before the first update
abbrev pub start : Terms → State
start t = opening t.fixed t.loads

-- whether an update is the loader's
abbrev pub is_of_loader : Update → Bool
is_of_loader (Register m) = false
is_of_loader (Deregister base) = false
is_of_loader (Replace m) = false
is_of_loader (Load m) = true
is_of_loader (Unload base) = true

-- the updates of the loader in a history
abbrev pub publications : List Update → ℕ
publications updates = count_by is_of_loader updates

-- a member that may be made known: a span, and one of the payloads that there are
abbrev pub IsMemberOf : Terms → Member → Type 0
IsMemberOf t m = IsSpan m.span × (m.payload < t.payloads)

-- an update that a step on these words accepts: what it adds is a member that may be made known
abbrev pub IsOfTerms : Terms → Update → Type 0
IsOfTerms t (Register m) = IsMemberOf t m
IsOfTerms t (Deregister base) = Unit {0}
IsOfTerms t (Replace m) = IsMemberOf t m
IsOfTerms t (Load m) = IsMemberOf t m
IsOfTerms t (Unload base) = Unit {0}

-- With what words may be made.
pub record AreTerms (t : Terms) : Type 0 where
  pub nodes : (4 ≤ t.nodes) × (t.nodes ≤ 16384)
  pub loads : (1 ≤ t.loads) × (t.loads ≤ 1024)
  pub fixed : AscendFrom 0 t.fixed
  pub payloads : t.payloads < 2 ^ 32
  pub members : AllByRecursion (IsMemberOf t) t.fixed

-- how many receipts of a log say that the n-th update was accepted
abbrev pub dones_of_all : ℕ → List ReceiptList → ℕ
dones_of_all n lists = sum_by (λ receipts. count_by (has_number n) receipts.list) lists

abbrev pub dones : ℕ → Receipts → ℕ
dones n r = count_by (has_number n) r.own + dones_of_all n r.joined

abbrev pub dones_in : ℕ → Log → ℕ
dones_in n v = dones n v.receipts

-- 1 for the numbers of a history of this length
abbrev pub number_of : ℕ → ℕ → ℕ
number_of len n = once (nat_le 1 n && nat_le n len)

-- The receipts of a list hold in this history, and along it stamps and numbers never fall. The list
-- begins with what its caller had seen when it was split off: no stamp is below that, each number
-- is above it, and a Full looks back no further.
abbrev pub IsRecord : Terms → List Update → ℕ → ReceiptList → Type 0
IsRecord t history callers receipts =
    AllHold (start t) history t.nodes callers receipts.since receipts.list
    × AreInOrder receipts.since receipts.list

-- each list of a log is such a record, and the history begins with what was heard
pub record ReceiptsHold (t : Terms) (history : List Update) (callers : ℕ)
    (r : Receipts) : Type 0 where
  pub since : r.since ≤ length history
  pub own : IsRecord t history callers (own_list r)
  pub joined : AllByRecursion (IsRecord t history callers) r.joined
  pub heard : IsPrefix r.heard history

-- It has the whole of all shares.
pub record IsAlone (l : Lineage) : Type 0 where
  pub whole : l.share ≡ WHOLE

-- it holds no lock, and has no node out
pub record IsIdle (v : Log) : Type 0 where
  pub held : v.holdings.held ≡ []
  pub out : v.holdings.out ≡ []
  pub loader : v.loader ≡ None

-- What is said of one log alone, where there is this history and so many callers were ever made.
pub record LogHolds (t : Terms) (history : List Update) (callers : ℕ) (v : Log) : Type 0 where
  -- it has the terms of its words, unless it was joined away
  pub terms : is_gone v.role ≡ false → v.terms ≡ t
  -- the history begins with what was seen
  pub begins : IsPrefix v.past history
  -- each of its receipts holds in what it has seen
  pub receipts : ReceiptsHold t v.past callers v.receipts
  -- one that is no caller's holds no lock and has no node out
  pub idle : weight v.role ≡ 0 → IsIdle v

-- What the log has seen is a history. The log has each of its numbers, once, and each receipt holds
-- in it, the callers being those that it made, directly or through others, and the first.
pub record IsWhole (v : Log) : Type 0 where
  pub lawful : IsHistory (start v.terms) v.past
  pub numbers : (n : ℕ) → dones_in n v ≡ number_of (length v.past) n
  pub receipts : ReceiptsHold v.terms v.past (v.made + 1) v.receipts

-- the version word of a lock that was taken at a version: locked, and perhaps with sleepers
abbrev pub IsLockedAt : ℕ → ℕ → Type 0
IsLockedAt version word = (version % 4 ≡ 0) × ((word ≡ version + 1) ⊎ (word ≡ version + 3))

-- The loader's lock, where this log has it. Only its holder stores in copies and publishes, so it
-- knows both copies and how many updates of the loader there were.
pub record HoldsLoader (m : SharedWords) (h : LoaderHolding) : Type 0 where
  pub locked : IsLockedAt h.version m.loader
  pub published : h.published ≡ upper m.clock
  pub active : h.active ≡ m.copies (upper m.clock % 2)
  pub spare : h.spare ≡ m.copies (spare m.clock)

-- one log's part in the loader's lock
abbrev pub AtLoader : SharedWords → Option ℕ → ℕ → Option LoaderHolding → Type 0
AtLoader m holder id None = Unit {0}
AtLoader m holder id (Some h) = (holder ≡ Some id) × HoldsLoader m h

-- where nobody holds it, the version word is a multiple of 4; where one does, that one's log has it
abbrev pub LoaderLock : ℕ → List Log → Option ℕ → Type 0
LoaderLock word views None = word % 4 ≡ 0
LoaderLock word views (Some id) =
    (v : Log) × (h : LoaderHolding) × ((get_elem? views id ≡ some v) × (v.loader ≡ Some h))

-- No log has the loader's lock and says that a word was stored since it was taken, or since it last
-- published.
abbrev pub NoneStored : List Log → Type 0
NoneStored views = (id : ℕ) (v : Log) → get_elem? views id ≡ some v
    → IfSome v.loader (λ h. h.stored ≡ false)

-- How the logs were forked from one another.
pub record LineagesHold (views : List Log) : Type 0 where
  pub whole : total (λ v. v.lineage.share) views ≡ WHOLE
  -- one that is waited for has a share
  pub named : (id : ℕ) (v : Log) → get_elem? views id ≡ some v → is_nameless v.role ≡ false
      → 0 < v.lineage.share
  -- one that isn't has accepted no update and made no caller
  pub nameless : (id : ℕ) (v : Log) → get_elem? views id ≡ some v → is_nameless v.role ≡ true
      → ((n : ℕ) → dones_in n v ≡ 0) × (v.made ≡ 0)

-- what holds of the history, with the clock and the terms
pub record HistoryHolds (t : Terms) (clock : ℕ) (history : List Update) : Type 0 where
  pub lawful : IsHistory (start t) history
  -- the clock counts the updates, and those of the loader
  pub updates : lower clock ≡ length history
  pub published : upper clock ≡ publications history
  pub terms : AreTerms t
  pub members : AllByRecursion (IsOfTerms t) history

-- What holds of the callers and of the loader's lock, where this is the history.
pub record CallersHold (t : Terms) (m : SharedWords) (views : List Log)
    (history : List Update) : Type 0 where
  pub holder : Option ℕ
  pub of_history : HistoryHolds t m.clock history
  -- made, begun and still allowed: no more updates than a registry takes
  pub room : length history + total (λ v. v.budget.allowance) views ≤ ALLOWANCE
  -- each number stands in one log, once
  pub numbers : (n : ℕ) → total (dones_in n) views ≡ number_of (length history) n
  pub each : (id : ℕ) (v : Log) → get_elem? views id ≡ some v
      → LogHolds t history (total (λ w. w.made) views + 1) v
  -- there are no more callers than were ever made, and the first
  pub weights : total (λ v. weight v.role) views ≤ total (λ v. v.made) views + 1
  -- one caller at most holds the loader's lock
  pub loader : LoaderLock m.loader views holder
  pub at_loader : (id : ℕ) (v : Log) → get_elem? views id ≡ some v → AtLoader m holder id v.loader
  -- but while its holder stores in it, the copy that isn't active is one publication behind
  pub spare_copy : NoneStored views
      → IsBehind t (m.copies (upper m.clock % 2)) (m.copies (spare m.clock))
  -- a version never returns: its counter has the credits above it
  pub counted : counters t m + total (λ v. v.budget.credit) views ≤ CREDIT
  pub lineages : LineagesHold views

-- A client's caches go on to fit it, since each call leaves its own receipts or adds some.
use Rattle.std.proofs.Common.{◌≡◌, ◌+◌, ◌≤◌, ◌++◌, ◌∙◌, ℕ, Bool, false, List, [], Option, Some, None, Result, Ok, Err, ap, sym, append_assoc, append-nil}
use Rattle.array_publish.specs.Lookup.{LooksUp}
use Rattle.array_publish.specs.Update.{TellsLoad, TellsUnload}
use Rattle.btree_change.specs.Insertion.{TriesInsertion}
use Rattle.btree_change.specs.Removal.{TriesRemoval}
use Rattle.btree_change.specs.Replacement.{TriesReplacement}
use Rattle.btree_lookup.specs.Tries.{TriesTree, receipts_of_try}
use Rattle.frame_cache.specs.CacheData.{CacheData, kept_at}
use Rattle.frame_cache.specs.Cached.{AnswersBy, CachedTry, FitsCaller, LooksAtClock, TriesHalf, with_answer}
use Rattle.reg_model.specs.Query.{member_at}
use Rattle.reg_model.specs.declared.answer.Again.{Again}
use Rattle.reg_model.specs.declared.answer.Found.{Found}
use Rattle.reg_model.specs.declared.answer.Found.TheVariants.{Hit, Miss}
use Rattle.reg_model.specs.declared.answer.Half.{Half}
use Rattle.reg_model.specs.declared.answer.Half.TheVariants.{Loaded, Registered}
use Rattle.reg_model.specs.declared.answer.Inserted.{Inserted}
use Rattle.reg_model.specs.declared.answer.Inserted.TheVariants as inserted
use Rattle.reg_model.specs.declared.answer.Loading.{Loading}
use Rattle.reg_model.specs.declared.answer.Loading.TheVariants as loading
use Rattle.reg_model.specs.declared.answer.Receipt.{Receipt}
use Rattle.reg_model.specs.declared.answer.Removed.{Removed}
use Rattle.reg_model.specs.declared.answer.Removed.TheVariants as removed
use Rattle.reg_model.specs.declared.answer.Replaced.{Replaced}
use Rattle.reg_model.specs.declared.answer.Replaced.TheVariants as replaced
use Rattle.reg_model.specs.declared.span.Member.{Member}
use Rattle.registry_core.specs.Begun.{TriesLoad, TriesUnload}
use Rattle.registry_client.specs.Clients.{ClientData, IsCacheOf, IsClient, begun_count}
use Rattle.word_rule.specs.CallerData.{CallerData}
use Rattle.word_rule.specs.Places.{lower}
use Rattle.word_rule.specs.declared.log.Log.{Log}
use Rattle.word_rule.specs.declared.log.Terms.{Terms}

-- a caller's own receipts are those of before, and some more
abbrev pub AddsReceipts : CallerData → CallerData → Type 0
AddsReceipts k k' = (more : List Receipt) × (k'.log.receipts.own ≡ k.log.receipts.own ++ more)

abbrev own_of : CallerData → List Receipt
own_of k = k.log.receipts.own

pub adds_none : (k k' : CallerData) → k'.log.receipts.own ≡ k.log.receipts.own → AddsReceipts k k'
adds_none k k' same = ([], same ∙ sym (append-nil (own_of k)))

adds_on : (k l k' : CallerData) → AddsReceipts k l → AddsReceipts l k' → AddsReceipts k k'
adds_on k l k' one two = (one.0 ++ two.0, two.1 ∙ ap (λ own. own ++ two.0) one.1 ∙ append_assoc (own_of k) one.0 two.0)

-- a lookup of either half, plainly and by a cache
pub by_tree : (t : Terms) (pc : ℕ) (k k' : CallerData) (result : Result Found Again) → TriesTree t pc k k' result → AddsReceipts k k'
by_tree t pc k k' result tries = (receipts_of_try pc result, ap own_of tries.log)

pub by_copy : (t : Terms) (pc : ℕ) (k k' : CallerData) (result : Result Found Again) → LooksUp t pc k k' result → AddsReceipts k k'
by_copy t pc k k' result looks = (looks.receipts, ap own_of looks.log)

by_half : (half : Half) (t : Terms) (pc : ℕ) (k k' : CallerData) (result : Result Found Again) → TriesHalf half t pc k k' result → AddsReceipts k k'
by_half Registered t pc k k' result tries = by_tree t pc k k' result tries
by_half Loaded t pc k k' result looks = by_copy t pc k k' result looks

by_clock : (t : Terms) (found : ℕ) (k k' : CallerData) → LooksAtClock t found k k' → AddsReceipts k k'
by_clock t found k k' looks = (looks.log.1, ap (λ (v : Log). v.receipts.own) looks.log.2.2)

by_entries : (entry : Option Member) (t : Terms) (pc : ℕ) (c c' : CacheData) (k k' : CallerData) (result : Result Found Again) → AnswersBy entry t pc c c' k k' result → AddsReceipts k k'
by_entries (Some m) t pc c c' k k' result answers = adds_none k k' (ap own_of answers.1)
by_entries None t pc c c' k k' result answers = by_half c.half t pc k k' result answers.0

pub by_cache : (t : Terms) (pc : ℕ) (c c' : CacheData) (k k' : CallerData) (result : Result Found Again) → CachedTry t pc c c' k k' result → AddsReceipts k k'
by_cache t pc c c' k k' result tries =
    adds_on k tries.look k' (by_clock t tries.clock k tries.look tries.looks)
    (by_entries (member_at pc (kept_at (lower tries.clock) c).entries) t pc (kept_at (lower tries.clock) c) c' tries.look k' result tries.answers)

half_after : (pc : ℕ) (c c' : CacheData) (result : Result Found Again) → c' ≡ with_answer result c → c'.half ≡ c.half
half_after pc c c' (Ok (Hit m stamp)) is = ap (λ (d : CacheData). d.half) is
half_after pc c c' (Ok (Miss stamp)) is = ap (λ (d : CacheData). d.half) is
half_after pc c c' (Err again) is = ap (λ (d : CacheData). d.half) is

half_by : (entry : Option Member) (t : Terms) (pc : ℕ) (c c' : CacheData) (k k' : CallerData) (result : Result Found Again) → AnswersBy entry t pc c c' k k' result → c'.half ≡ c.half
half_by (Some m) t pc c c' k k' result answers = ap (λ (d : CacheData). d.half) answers.2
half_by None t pc c c' k k' result answers = half_after pc c c' result answers.1

-- a cache that was asked fits, and is of its half still
pub asked_fits : (half : Half) (t : Terms) (pc : ℕ) (c c' : CacheData) (k k' : CallerData) (result : Result Found Again) → CachedTry t pc c c' k k' result → FitsCaller c' k'.log → c.half ≡ half → IsCacheOf half c' k'.log
asked_fits half t pc c c' k k' result tries fits is =
    (half_by (member_at pc (kept_at (lower tries.clock) c).entries) t pc (kept_at (lower tries.clock) c) c' tries.look k' result tries.answers ∙ is, fits)

-- an update that was answered
pub by_insertion : (t : Terms) (m : Member) (k k' : CallerData) (answer : Inserted) → TriesInsertion t m k k' answer → AddsReceipts k k'
by_insertion t m k k' inserted.Spent tries = adds_none k k' (ap own_of tries.1)
by_insertion t m k k' (inserted.Done number) tries = (_, ap (λ r. r.own) tries.1.call.receipts)
by_insertion t m k k' (inserted.Overlap other stamp) tries = (_, ap (λ r. r.own) tries.1.call.receipts)
by_insertion t m k k' (inserted.Full stamp) tries = (_, ap (λ r. r.own) tries.1.call.receipts)

pub by_removal : (t : Terms) (base : ℕ) (k k' : CallerData) (answer : Removed) → TriesRemoval t base k k' answer → AddsReceipts k k'
by_removal t base k k' removed.Spent tries = adds_none k k' (ap own_of tries.1)
by_removal t base k k' (removed.Done number m) tries = (_, ap (λ r. r.own) tries.1.call.receipts)
by_removal t base k k' (removed.NotFound stamp) tries = (_, ap (λ r. r.own) tries.1.call.receipts)

pub by_replacement : (t : Terms) (m : Member) (k k' : CallerData) (answer : Replaced) → TriesReplacement t m k k' answer → AddsReceipts k k'
by_replacement t m k k' replaced.Spent tries = adds_none k k' (ap own_of tries.1)
by_replacement t m k k' (replaced.Done number payload) tries = (_, ap (λ r. r.own) tries.1.call.receipts)
by_replacement t m k k' (replaced.NotFound stamp) tries = (_, ap (λ r. r.own) tries.1.call.receipts)

by_loaded : (t : Terms) (m : Member) (k k' : CallerData) (answer : Loading) → TellsLoad t m k k' answer → AddsReceipts k k'
by_loaded t m k k' answer tells = (_, ap own_of tells.4.1)

pub by_load : (t : Terms) (m : Member) (k k' : CallerData) (answer : Loading) → TriesLoad t m k k' answer → AddsReceipts k k'
by_load t m k k' loading.Spent tries = adds_none k k' (ap own_of tries.1)
by_load t m k k' (loading.Done number) tries = by_loaded t m k k' (loading.Done number) tries.1
by_load t m k k' (loading.Overlap other stamp) tries = by_loaded t m k k' (loading.Overlap other stamp) tries.1
by_load t m k k' (loading.LoadFull stamp) tries = by_loaded t m k k' (loading.LoadFull stamp) tries.1

by_unloaded : (t : Terms) (base : ℕ) (k k' : CallerData) (answer : Removed) → TellsUnload t base k k' answer → AddsReceipts k k'
by_unloaded t base k k' answer tells = (_, ap own_of tells.4.1)

pub by_unload : (t : Terms) (base : ℕ) (k k' : CallerData) (answer : Removed) → TriesUnload t base k k' answer → AddsReceipts k k'
by_unload t base k k' removed.Spent tries = adds_none k k' (ap own_of tries.1)
by_unload t base k k' (removed.Done number m) tries = by_unloaded t base k k' (removed.Done number m) tries.1
by_unload t base k k' (removed.NotFound stamp) tries = by_unloaded t base k k' (removed.NotFound stamp) tries.1

-- the law of caches
abbrev pub GoOnToFit : Type 0
GoOnToFit = (c : CacheData) (v w : Log) (more : List Receipt) → w.receipts.own ≡ v.receipts.own ++ more → FitsCaller c v → FitsCaller c w

pub still_fits : GoOnToFit → (half : Half) (c : CacheData) (k k' : CallerData) → AddsReceipts k k' → IsCacheOf half c k.log → IsCacheOf half c k'.log
still_fits law half c k k' adds is = (is.0, law c k.log k'.log adds.0 adds.1 is.1)

pub is_client : (c : ClientData) → c.me.table ≡ c.words.table → c.me.log.holdings.held ≡ [] → c.me.log.loader ≡ None → (c.lost ≡ false → c.me.log.holdings.out ≡ []) → c.me.left + begun_count c.begun ≤ c.me.log.budget.allowance
    → IsCacheOf Registered c.registered c.me.log → IsCacheOf Loaded c.loaded c.me.log → IsClient c
is_client c home held loader out owed registered loaded = record { home = home; held = held; loader = loader; out = out; owed = owed; registered = registered; loaded = loaded }

-- a client after a step of its caller that adds receipts: what is left to show is of the caller alone
pub goes_on : GoOnToFit → (c : ClientData) (k : CallerData) (begun lost : Bool) → AddsReceipts c.me k → IsClient c → k.table ≡ c.words.table → k.log.holdings.held ≡ [] → k.log.loader ≡ None → (lost ≡ false → k.log.holdings.out ≡ []) → k.left + begun_count begun ≤ k.log.budget.allowance → IsClient (record c { me = k; begun = begun; lost = lost })
goes_on law c k begun lost adds is home held loader out owed =
    is_client (record c { me = k; begun = begun; lost = lost }) home held loader out owed (still_fits law Registered c.registered c.me k adds is.registered) (still_fits law Loaded c.loaded c.me k adds is.loaded)

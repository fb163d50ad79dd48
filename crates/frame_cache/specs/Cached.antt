-- A lookup by a cache: what it answers, and what it makes of the cache and of its caller.
use Rattle.std.specs.Prelude.{◌≡◌, ℕ, ◌≤◌, List, [], ◌∷◌, ◌++◌, length, take, Contains, Option}
use Rattle.std.specs.Prelude.{Some, None, Result, Ok, Err}
use Rattle.std.specs.List.{AllByRecursion}
use Rattle.array_publish.specs.Lookup.{LooksUp}
use Rattle.btree_lookup.specs.Tries.{TriesTree}
use Rattle.reg_model.specs.History.{IsHistory, state_at}
use Rattle.reg_model.specs.Query.{member_at, query}
use Rattle.reg_model.specs.Receipt.{AllHold, member_of, stamp_of}
use Rattle.reg_model.specs.declared.answer.Again.{Again}
use Rattle.reg_model.specs.declared.answer.Found.{Found}
use Rattle.reg_model.specs.declared.answer.Found.TheVariants.{Hit, Miss}
use Rattle.reg_model.specs.declared.answer.Half.{Half}
use Rattle.reg_model.specs.declared.answer.Half.TheVariants.{Loaded, Registered}
use Rattle.reg_model.specs.declared.answer.Receipt.TheVariants.{Query}
use Rattle.reg_model.specs.declared.answer.Update.{Update}
use Rattle.reg_model.specs.declared.span.Member.{Member}
use Rattle.word_rule.specs.Callers.{start}
use Rattle.word_rule.specs.CallerData.{CallerData}
use Rattle.word_rule.specs.Clock.{AfterClock}
use Rattle.word_rule.specs.Logs.{load_of}
use Rattle.word_rule.specs.Places.{CLOCK, lower}
use Rattle.word_rule.specs.declared.log.Ask.TheVariants as ask
use Rattle.word_rule.specs.declared.log.Log.{Log}
use Rattle.word_rule.specs.declared.log.Terms.{Terms}
use Rattle.frame_cache.specs.CacheData.{CacheData, but_found, kept_at}

-- the caller's own receipts have a hit of the member in this half, at this stamp
abbrev pub HasHit : Half → ℕ → Log → Member → Type 0
HasHit half stamp v m = (pc : ℕ) × Contains v.receipts.own (Query half pc (Hit m stamp))

-- they have such a hit of each entry
abbrev pub FitsCaller : CacheData → Log → Type 0
FitsCaller c v = AllByRecursion (HasHit c.half c.stamp v) c.entries

-- The clock was loaded once, and nothing else was done.
pub record LooksAtClock (t : Terms) (found : ℕ) (k k' : CallerData) : Type 0 where
  pub log : AfterClock t ask.Nothing found k.log k'.log
  pub once : k'.log.trace.loads ≡ k.log.trace.loads ++ load_of k.log CLOCK found ∷ []
  pub rest : k' ≡ record k { log = k'.log }

-- one try of a half
abbrev pub TriesHalf : Half → Terms → ℕ → CallerData → CallerData → Result Found Again → Type 0
TriesHalf Registered t pc k k' result = TriesTree t pc k k' result
TriesHalf Loaded t pc k k' result = LooksUp t pc k k' result

-- a member in front of the entries, of which eight are kept
abbrev pub with_newest : Member → CacheData → CacheData
with_newest m c = record c { entries = take 8 (m ∷ c.entries) }

-- after an answer of the half: a hit comes first, and no entry of another stamp is kept
abbrev pub with_answer : Result Found Again → CacheData → CacheData
with_answer (Ok (Hit m stamp)) c = with_newest m (kept_at stamp c)
with_answer (Ok (Miss stamp)) c = c
with_answer (Err again) c = c

-- What is answered, by what the entries have: the entry that contains the address comes first and
-- is the answer; where there is none, the half is tried.
abbrev pub AnswersBy : Option Member → Terms → ℕ → CacheData → CacheData → CallerData → CallerData
    → Result Found Again → Type 0
AnswersBy (Some m) t pc c c' k k' result =
    (result ≡ Ok (Hit m c.stamp)) × (k' ≡ k)
    × (c' ≡ record c { entries = m ∷ but_found pc c.entries })
AnswersBy None t pc c c' k k' result =
    TriesHalf c.half t pc k k' result × (c' ≡ with_answer result c)

-- A try by a cache: after a load of the clock the entries of another stamp than its lower half are
-- dropped, and what is left answers, or the half does.
pub record CachedTry (t : Terms) (pc : ℕ) (c c' : CacheData) (k k' : CallerData)
    (result : Result Found Again) : Type 0 where
  pub clock : ℕ
  pub look : CallerData
  pub looks : LooksAtClock t clock k look
  pub answers : AnswersBy (member_at pc (kept_at (lower clock) c).entries) t pc
      (kept_at (lower clock) c) c' look k' result

-- Nothing of a caller changed but what it has seen, its loads, its sights and its own receipts.
abbrev pub OnlyLooks : CallerData → CallerData → Type 0
OnlyLooks k k' = k' ≡ record k {
  log = record k.log {
    past = k'.log.past;
    trace = record k.log.trace { loads = k'.log.trace.loads };
    sights = k'.log.sights;
    receipts = record k.log.receipts { own = k'.log.receipts.own };
  };
}

-- The answer is the half's at its stamp, in each history in which all own receipts of the caller
-- hold; and the stamp is not below what the caller had seen.
pub record IsAnswerOf (t : Terms) (half : Half) (pc : ℕ) (k k' : CallerData)
    (found : Found) : Type 0 where
  pub seen : length k.log.past ≤ stamp_of found
  pub right : (history : List Update) (callers since : ℕ) → IsHistory (start t) history
      → AllHold (start t) history t.nodes callers since k'.log.receipts.own
      → query half pc (state_at (start t) history (stamp_of found)) ≡ member_of found

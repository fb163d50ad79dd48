-- What a load of the clock tells, and what it makes of its caller's log.
use Rattle.std.specs.Prelude.{◌≡◌, ℕ, ◌≤◌, ◌%◌, ◌⊎◌, List, [], ◌∷◌, length, Option, IfSome}
use Rattle.std.specs.Prelude.{IsSomeAnd, false}
use Rattle.std.specs.List.{AllByRecursion}
use mathlib.Core.List.{IsPrefix}
use Rattle.reg_model.specs.State.{IsLawful, objects}
use Rattle.reg_model.specs.History.{state_after}
use Rattle.reg_model.specs.declared.span.Member.{Member}
use Rattle.reg_model.specs.declared.answer.Receipt.{Receipt}
use Rattle.reg_model.specs.declared.answer.Update.{Update}
use Rattle.reg_model.specs.declared.answer.Update.TheVariants as update
use Rattle.word_rule.specs.declared.log.Ask.{Ask}
use Rattle.word_rule.specs.declared.log.Ask.TheVariants as ask
use Rattle.word_rule.specs.declared.log.CopySight.{CopySight}
use Rattle.word_rule.specs.declared.log.Log.{Log}
use Rattle.word_rule.specs.declared.log.Terms.{Terms}
use Rattle.word_rule.specs.Places.{lower, upper}
use Rattle.word_rule.specs.Callers.{AreTerms, IsAlone, IsMemberOf, publications, start}
use Rattle.word_rule.specs.Copies.{AreOfCopy, IsBehind, ListsAll}
use Rattle.word_rule.specs.Sights.{after_clock, walk_receipts}
use Rattle.word_rule.specs.Steps.{IsRefusalOf, MayRefuse}
use Rattle.word_rule.specs.TreeRefusals.{ShowsFull, ShowsNone, ShowsNoSpan, ShowsOverlap}

-- The words of a copy that lists these members, no more than may be loaded, and has all words of
-- the sight as they were loaded.
pub record IsSeen (t : Terms) (loaded : List Member) (s : CopySight) : Type 0 where
  pub copy : List ℕ
  pub loaded_so : AreOfCopy t (s.guard % 2) copy s.words
  pub listing : ListsAll copy loaded
  pub few : length listing.members ≤ t.loads

-- What a load of the clock tells of the history, which is seen afterwards.
pub record ClockTells (t : Terms) (found : ℕ) (v : Log) (past : List Update) : Type 0 where
  pub terms : v.terms ≡ t
  pub valid : AreTerms t
  pub begins : IsPrefix v.past past
  pub updates : lower found ≡ length past
  pub published : upper found ≡ publications past
  pub lawful : IsLawful (state_after (start t) past)
  pub members : AllByRecursion (IsMemberOf t) (objects (state_after (start t) past))
  pub entries : AllByRecursion (IsMemberOf t) (state_after (start t) past).registered
  -- where each update was the loader's, as both halves of the clock then say, nothing is registered
  pub registered : publications past ≡ length past → (state_after (start t) past).registered ≡ []
  -- where the guard of its sight of copies is still the upper half, what was loaded is of a copy
  -- that lists the loaded members
  pub copies : IfSome v.sights.copies
      (λ s. s.guard ≡ upper found → IsSeen t (state_after (start t) past).loaded s)
  -- the holder of the loader's lock knows how often it published, and what the active copy lists
  pub holder : IfSome v.loader (λ h. (upper found ≡ h.published)
      × ListsAll h.active (state_after (start t) past).loaded)
  -- and, where it stored nothing since it last published, that the other copy is one publication
  -- behind
  pub spare_copy : IfSome v.loader (λ h. h.stored ≡ false → IsBehind t h.active h.spare)
  -- where nobody else can step, nothing was accepted since
  pub alone : IsAlone v.lineage → past ≡ v.past

-- What a load of the clock asks for: the refusal of an update of the tree, that held live leaves
-- show it; of one of the loader's, that the active copy and the fixed members refuse it, under the
-- loader's lock.
abbrev pub MayAsk : Terms → Ask → Log → Type 0
MayAsk t (ask.Refused (update.Register m)) v =
    ((other : Member) × ShowsOverlap m other v) ⊎ ShowsFull m v
MayAsk t (ask.Refused (update.Deregister base)) v = ShowsNone base v
MayAsk t (ask.Refused (update.Replace m)) v = ShowsNoSpan m v
MayAsk t (ask.Refused u) v = IsSomeAnd v.loader (MayRefuse t u)
MayAsk t _ v = Unit {0}

-- The receipts that a load of the clock appends, by what it is asked, where `seen` has seen all of
-- the history: the loader's half's answer, where the upper half is still the guard of this sight;
-- or the refusal of the update; else none. The registered half's goes with the load of a version.
abbrev pub AreAsked : Ask → ℕ → Option CopySight → Log → List Receipt → Type 0
AreAsked ask.Nothing found sight seen receipts = receipts ≡ []
AreAsked (ask.Registered pc) found sight seen receipts = receipts ≡ []
AreAsked (ask.Loaded pc) found sight seen receipts =
    receipts ≡ walk_receipts seen found pc sight
AreAsked (ask.Refused u) found sight seen receipts = (r : Receipt) × ((receipts ≡ r ∷ [])
    × IsRefusalOf u (state_after (start seen.terms) seen.past) (lower found) r)

-- The clock was loaded.
abbrev pub AfterClock : Terms → Ask → ℕ → Log → Log → Type 0
AfterClock t a found v w = (past : List Update) × (receipts : List Receipt)
    × (ClockTells t found v past
    × AreAsked a found v.sights.copies (record v { past = past }) receipts
    × (w ≡ after_clock found past receipts v))

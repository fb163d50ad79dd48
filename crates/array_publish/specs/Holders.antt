-- The holder of the loader's lock: the words of both copies, and what it makes of the one that
-- isn't active.
use Rattle.std.specs.Prelude.{◌≡◌, ℕ, ◌+◌, ◌-◌, ◌<◌, ◌%◌, Bool, List, [], ◌++◌, length, Option}
use Rattle.std.specs.Prelude.{Some, None, option_map, IsSomeAnd, slice_index}
use Rattle.reg_model.specs.declared.span.Member.{Member}
use Rattle.word_rule.specs.declared.log.LoadEvent.{LoadEvent}
use Rattle.word_rule.specs.declared.log.LoaderHolding.{LoaderHolding}
use Rattle.word_rule.specs.declared.log.Log.{Log}
use Rattle.word_rule.specs.declared.log.Sights.{Sights}
use Rattle.word_rule.specs.CallerData.{CallerData, WordsData}
use Rattle.word_rule.specs.Callers.{AreTerms}
use Rattle.word_rule.specs.Places.{copy_place, copy_words, member_place}
use Rattle.array_publish.specs.declared.active.CopyStarts.{CopyStarts}
use Rattle.word_rule.specs.declared.log.Terms.{Terms}

-- the words of the active copy, and of the other one
abbrev pub active_words : Option LoaderHolding → List ℕ
active_words None = []
active_words (Some h) = h.active

abbrev pub spare_words : Option LoaderHolding → List ℕ
spare_words None = []
spare_words (Some h) = h.spare

-- A caller of these words that holds the loader's lock, where copy c is active.
pub record IsHolder (w : WordsData) (c : ℕ) (k : CallerData) : Type 0 where
  pub table : k.table ≡ w.table
  pub terms : k.log.terms ≡ w.terms
  pub valid : AreTerms w.terms
  pub one : c < 2
  pub holds : IsSomeAnd k.log.loader (λ h. (h.published % 2 ≡ c)
      × (length h.active ≡ copy_words w.terms) × (length h.spare ≡ copy_words w.terms))

-- the places where both copies begin
pub record HasStarts (t : Terms) (s : CopyStarts) : Type 0 where
  pub active : s.active ≡ copy_place t s.copy
  pub spare : s.spare ≡ copy_place t (1 - s.copy)

-- What work on both copies asks of its caller: it holds the loader's lock, and they begin at these
-- places.
pub record MayWork (w : WordsData) (s : CopyStarts) (k : CallerData) : Type 0 where
  pub holder : IsHolder w s.copy k
  pub places : HasStarts w.terms s

abbrev pub with_spare : List ℕ → Bool → LoaderHolding → LoaderHolding
with_spare spare stored h = record h { spare = spare; stored = stored }

-- a log after loads and stores, so that the copy that isn't active has these words
abbrev pub after_work : List LoadEvent → ℕ → Sights → List ℕ → Bool → Log → Log
after_work more stores sights spare stored v = record v {
  trace = record v.trace {
    loads = v.trace.loads ++ more;
    writes = v.trace.writes + stores;
  };
  sights = sights;
  loader = option_map (with_spare spare stored) v.loader;
}

-- The copy that isn't active came to have these words, by loads and stores alone.
abbrev pub Spells : List ℕ → CallerData → CallerData → Type 0
Spells spare k k' = (more : List LoadEvent) × (stores : ℕ) × (sights : Sights) × (stored : Bool)
    × (k' ≡ record k { log = after_work more stores sights spare stored k.log })

-- Words were loaded under the lock, and none was stored.
pub record LoadsHeld (k k' : CallerData) : Type 0 where
  pub same : Spells (spare_words k.log.loader) k k'
  pub kept : k'.log.loader ≡ k.log.loader

-- what the words of a copy say of its member i
abbrev pub member_in : List ℕ → ℕ → Member
member_in words i = record {
  span = record {
    first = slice_index words (member_place i);
    last = slice_index words (member_place i + 1);
  };
  payload = slice_index words (member_place i + 2);
}

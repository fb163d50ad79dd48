-- The loader's copies: what a copy lists, what the other one lists beside it, and what a caller has
-- seen of the active one.
use Rattle.std.specs.Prelude.{◌≡◌, ◌≢◌, ℕ, ◌+◌, ◌-◌, ◌*◌, ◌<◌, ◌≤◌, ◌%◌, ◌⊎◌, ◌↔◌, IsTrue, List}
use Rattle.std.specs.Prelude.{[], ◌∷◌, ◌++◌, length, min, slice_index, Contains, IsSome}
use Rattle.std.specs.List.{AllByRecursion}
use Rattle.reg_model.specs.History.{state_after}
use Rattle.reg_model.specs.State.{IsFree, at_base, opening}
use Rattle.reg_model.specs.declared.answer.Update.{Update}
use Rattle.reg_model.specs.declared.answer.Update.TheVariants as update
use Rattle.reg_model.specs.declared.span.Member.{Member}
use Rattle.word_rule.specs.declared.log.Terms.{Terms}
use Rattle.word_rule.specs.declared.log.LoadedWord.{LoadedWord}
use Rattle.word_rule.specs.declared.log.CopySight.{CopySight}
use Rattle.segment_array.specs.Ascending.{AscendFrom}
use Rattle.word_rule.specs.Places.{copy_place, is_of_copy, segments, segment_place, member_place}
use Rattle.word_rule.specs.Places.{upper}

-- The members stand in a copy one after another, from the i-th on: of each its first and last
-- address and its payload.
abbrev pub StandFrom : List ℕ → ℕ → List Member → Type 0
StandFrom words i [] = Unit {0}
StandFrom words i (m ∷ members) =
    (slice_index words (member_place i) ≡ m.span.first)
    × (slice_index words (member_place i + 1) ≡ m.span.last)
    × (slice_index words (member_place i + 2) ≡ m.payload)
    × StandFrom words (i + 1) members

-- of so many members, those in this segment: all segments but the highest are full
abbrev pub count_in : ℕ → ℕ → ℕ
count_in count s = min 16 (count - 16 * s)

-- A copy lists members in ascending order: it says how many there are and how many segments they
-- fill, and each segment how many it has; segments are numbered from 1, and each says the number
-- of the one below it.
pub record ListsMembers (words : List ℕ) (members : List Member) : Type 0 where
  pub head : slice_index words 0 ≡ segments (length members)
  pub count : slice_index words 1 ≡ length members
  pub previous : (s : ℕ) → s < segments (length members)
      → slice_index words (segment_place s) ≡ s
  pub counts : (s : ℕ) → s < segments (length members)
      → slice_index words (segment_place s + 1) ≡ count_in (length members) s
  pub ascending : AscendFrom 0 members
  pub stand : StandFrom words 0 members

-- A copy lists these members. It ascends, so each stands there once.
pub record ListsAll (words : List ℕ) (loaded : List Member) : Type 0 where
  pub members : List Member
  pub lists : ListsMembers words members
  pub same : (m : Member) → Contains members m ↔ Contains loaded m

-- the active copy lists the loaded members
abbrev pub ActiveCopy : Terms → ℕ → (ℕ → List ℕ) → List Update → Type 0
ActiveCopy t clock copies history =
    ListsAll (copies (upper clock % 2)) (state_after (opening t.fixed t.loads) history).loaded

-- what a publication makes of the loaded members
abbrev pub Publishes : Terms → Update → List Member → List Member → Type 0
Publishes t (update.Load m) before after =
    IsFree m.span (t.fixed ++ before) × (length before < t.loads)
    × ((x : Member) → Contains after x ↔ (Contains before x ⊎ (m ≡ x)))
Publishes t (update.Unload base) before after =
    IsSome (at_base base before)
    × ((x : Member) → Contains after x ↔ (Contains before x × (x.span.first ≢ base)))
Publishes t (update.Register m) before after = ⊥
Publishes t (update.Deregister base) before after = ⊥
Publishes t (update.Replace m) before after = ⊥

-- The other copy is one publication behind the active one: it lists the members of before the last
-- one. Before the first both list none.
pub record IsBehind (t : Terms) (active other : List ℕ) : Type 0 where
  pub before : List Member
  pub after : List Member
  pub lists_before : ListsMembers other before
  pub lists_after : ListsMembers active after
  pub few : length before ≤ t.loads
  pub change : ((before ≡ []) × (after ≡ [])) ⊎ ((u : Update) × Publishes t u before after)

-- the words that were loaded are those of copy c
abbrev pub AreOfCopy : Terms → ℕ → List ℕ → List LoadedWord → Type 0
AreOfCopy t c copy words =
    AllByRecursion (λ w. slice_index copy (w.at - copy_place t c) ≡ w.value) words

-- A sight of copies has words of its own copy alone. While the upper half of the clock is its
-- guard, they are as they were loaded.
pub record CopySightHolds (t : Terms) (clock : ℕ) (copies : ℕ → List ℕ)
    (s : CopySight) : Type 0 where
  pub earlier : s.guard ≤ upper clock
  pub own : AllByRecursion (λ w. IsTrue (is_of_copy t (s.guard % 2) w.at)) s.words
  pub loaded : s.guard ≡ upper clock → AreOfCopy t (s.guard % 2) (copies (s.guard % 2)) s.words

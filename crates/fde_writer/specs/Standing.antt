-- The sections that stand under keys.
use Rattle.std.specs.Prelude.{◌≡◌, ◌≢◌, ◌+◌, ◌⊎◌, ◌++◌, ◌∷◌, ℕ, List, [], Contains, eqb, length}
use Rattle.std.specs.List.{flat_map, sum_by}
use Rattle.std.specs.Map.{lookup, values_of}
use Rattle.std.specs.Option.{unwrap_or}
use Rattle.frame_parse.specs.Sections.{SectionData}
use Rattle.fde_writer.specs.Places.{PlaceData, placed_members}

-- a section that stands: the program's own number, and the places of its members in order of bytes
pub record StandingData : Type 0 where
  pub note : ℕ
  pub section : SectionData
  pub places : List PlaceData

-- one with one member and no note
abbrev pub bare_standing : SectionData → PlaceData → StandingData
bare_standing section place = record { note = 0; section = section; places = place ∷ [] }

-- sections by their keys: under each, in the order in which they came
abbrev pub Standings : Type 0
Standings = List (ℕ × List StandingData)

-- the sections that stand under a key
abbrev pub standing_under : ℕ → Standings → List StandingData
standing_under key stands = unwrap_or (lookup (eqb key) stands) []

-- those of all keys
abbrev pub all_standing : Standings → List StandingData
all_standing stands = flat_map (λ under. under) (values_of stands)

-- the places of their members
abbrev pub all_places : Standings → List PlaceData
all_places stands = flat_map (λ x. x.places) (all_standing stands)

-- a number of each of them, added up
abbrev pub standing_sum : (StandingData → ℕ) → Standings → ℕ
standing_sum f stands = sum_by (λ under. sum_by f under) (values_of stands)

-- Under this key these sections stand in place of those, and under all others the same.
pub record Rewrites (key : ℕ) (old new : List StandingData) (stands stands' : Standings) : Type 0
  where
    pub before : standing_under key stands ≡ old
    pub after : standing_under key stands' ≡ new
    pub others : (other : ℕ) → other ≢ key
        → standing_under other stands' ≡ standing_under other stands
    pub weighs : (f : StandingData → ℕ)
        → standing_sum f stands' + sum_by f old ≡ standing_sum f stands + sum_by f new
    pub listed : (x : StandingData) → Contains old x → Contains (all_standing stands) x
    pub kept : (x : StandingData) → Contains (all_standing stands') x
        → Contains (all_standing stands) x ⊎ Contains new x

-- as many places as the latest of these sections has
abbrev pub HasAsMany : List PlaceData → List StandingData → Type 0
HasAsMany places under = (earlier : List StandingData) (x : StandingData)
    → under ≡ earlier ++ x ∷ [] → length places ≡ length x.places

-- one section with its members, placed anyhow
pub record HasMembersOf (x y : StandingData) : Type 0 where
  pub section : y.section ≡ x.section
  pub members : placed_members y.places ≡ placed_members x.places

-- each section that stands now stood before, or is this one, its members placed anyhow
abbrev pub AreOfBefore : StandingData → Standings → Standings → Type 0
AreOfBefore x stands stands' = (y : StandingData) → Contains (all_standing stands') y
    → Contains (all_standing stands) y ⊎ HasMembersOf x y

-- The same sections stand under each key, whatever became of this one.
pub record LeavesStanding (x : StandingData) (stands stands' : Standings) : Type 0 where
  pub same : (key : ℕ) → standing_under key stands' ≡ standing_under key stands
  pub weighs : (f : StandingData → ℕ) → standing_sum f stands' ≡ standing_sum f stands
  pub of_before : AreOfBefore x stands stands'

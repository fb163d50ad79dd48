-- Where members stand, and how often lists have them.
use Rattle.std.specs.Prelude.{◌≡◌, ◌≤◌, ◌+◌, List, map, Bool, true, false, ◌&&◌, count_by}
use Rattle.reg_model.specs.State.{State}
use Rattle.reg_model.specs.declared.answer.Half.{Half}
use Rattle.reg_model.specs.declared.answer.Half.TheVariants.{Loaded, Registered}
use Rattle.reg_model.specs.declared.span.Member.{Member}

-- a member, and the half in which it stands
pub record PlaceData : Type 0 where
  pub member : Member
  pub half : Half

-- the members of one half
abbrev pub members_in : Half → State → List Member
members_in Registered s = s.registered
members_in Loaded s = s.loaded

-- those of places
abbrev pub placed_members : List PlaceData → List Member
placed_members places = map (λ p. p.member) places

-- a registered place for each member
abbrev pub all_registered : List Member → List PlaceData
all_registered members = map (λ m. record { member = m; half = Registered }) members

abbrev pub is_half : Half → Half → Bool
is_half Registered Registered = true
is_half Loaded Loaded = true
is_half _ _ = false

-- whether a place is in this half, and its member passes a test
abbrev pub passes : Half → (Member → Bool) → PlaceData → Bool
passes half test p = is_half half p.half && test p.member

-- In each half stand as many members that pass a test as are placed there, whichever the test is:
-- each member as often as it is placed.
abbrev pub HoldsPlaces : State → List PlaceData → Type 0
HoldsPlaces s places = (half : Half) (test : Member → Bool)
    → count_by test (members_in half s) ≡ count_by (passes half test) places

-- each member stands in its half as often as it is placed there, or oftener
abbrev pub HoldsAtLeast : State → List PlaceData → Type 0
HoldsAtLeast s places = (half : Half) (test : Member → Bool)
    → count_by (passes half test) places ≤ count_by test (members_in half s)

-- the second state has the members of the first and these
abbrev pub GainsPlaces : List PlaceData → State → State → Type 0
GainsPlaces places s s' = (half : Half) (test : Member → Bool)
    → count_by test (members_in half s')
    ≡ count_by test (members_in half s) + count_by (passes half test) places

-- both have the same members
abbrev pub HaveSame : State → State → Type 0
HaveSame s s' = (half : Half) (test : Member → Bool)
    → count_by test (members_in half s') ≡ count_by test (members_in half s)

-- the second has those of the first, but for some of these
abbrev pub LosesAtMost : List PlaceData → State → State → Type 0
LosesAtMost places s s' = (half : Half) (test : Member → Bool)
    → count_by test (members_in half s)
    ≤ count_by test (members_in half s') + count_by (passes half test) places

-- The state of a registry: three lists of members.
use Rattle.std.specs.Prelude.{ℕ, ◌≤◌, List, [], ◌∷◌, ◌++◌, length, Option, ◌==◌, All, Contains}
use Rattle.std.specs.List.{find}
use Rattle.reg_model.specs.SpanData.{SpanData, Overlaps, is_same_span}
use Rattle.reg_model.specs.declared.span.Member.{Member}

-- what is registered, what the loader has loaded, what it was given for good, and how many may be
-- loaded
pub record State : Type 0 where
  pub registered : List Member
  pub loaded : List Member
  pub fixed : List Member
  pub loads : ℕ

-- nothing is registered or loaded yet
abbrev pub opening : List Member → ℕ → State
opening fixed loads = record { registered = []; loaded = []; fixed = fixed; loads = loads }

-- the loader's members, fixed and loaded
abbrev pub objects : State → List Member
objects s = s.fixed ++ s.loaded

-- no member overlaps the span
abbrev pub IsFree : SpanData → List Member → Type 0
IsFree span members = All (λ m. ¬ Overlaps m.span span) members

-- no two members overlap
abbrev pub AreDisjoint : List Member → Type 0
AreDisjoint [] = Unit {0}
AreDisjoint (m ∷ members) = IsFree m.span members × AreDisjoint members

-- Registered members are disjoint, and so are the loader's; a registered one may overlap a loaded
-- one. No more are loaded than may be.
pub record IsLawful (s : State) : Type 0 where
  pub registered : AreDisjoint s.registered
  pub objects : AreDisjoint (objects s)
  pub room : length s.loaded ≤ s.loads

-- the member with this first address
abbrev pub at_base : ℕ → List Member → Option Member
at_base base members = find (λ m. m.span.first == base) members

-- the member with this whole span
abbrev pub at_span : SpanData → List Member → Option Member
at_span span members = find (λ m. is_same_span m.span span) members

-- of the members that overlap the span, this one has the least first address
pub record IsLowestOverlap (span : SpanData) (members : List Member) (m : Member) : Type 0 where
  pub listed : Contains members m
  pub overlaps : Overlaps m.span span
  pub lowest : All (λ other. Overlaps other.span span → m.span.first ≤ other.span.first) members

-- Where a member belongs among others.
use Rattle.std.specs.Prelude.{ℕ, ◌<◌, ◌≤◌, List, [], ◌∷◌, take, slice_get, IfSome, All, Contains}
use Rattle.std.specs.Prelude.{◌≡◌, ◌⊎◌, ◌↔◌, length}
use Rattle.reg_model.specs.declared.span.Member.{Member}
use Rattle.segment_array.specs.Ascending.{AscendFrom}

-- so many members begin at or below the address, and the next one above it
pub record IsPlaceOf (pc : ℕ) (members : List Member) (place : ℕ) : Type 0 where
  pub inside : place ≤ length members
  pub below : All (λ m. m.span.first ≤ pc) (take place members)
  pub above : IfSome (slice_get members place) (λ m. pc < m.span.first)

-- all of them begin above the address
abbrev pub BeginAbove : ℕ → List Member → Type 0
BeginAbove pc [] = Unit {0}
BeginAbove pc (m ∷ members) = pc < m.span.first

-- These are all members, with this one more, in ascending order.
pub record IsWithMember (m : Member) (members after : List Member) : Type 0 where
  pub ascending : AscendFrom 0 after
  pub kept : (x : Member) → Contains after x ↔ (Contains members x ⊎ (m ≡ x))

-- The members of a section's FDEs, and the FDE to which a member leads. All addresses are modulo
-- 2^64.
use Rattle.std.specs.Prelude.{◌≡◌, ℕ, ◌+◌, ◌-◌, ◌%◌, ◌^◌, List, map, All, Bool, true, false}
use Rattle.std.specs.Prelude.{Some, nat_lt, ◌&&◌, not, Contains}
use Rattle.std.specs.List.{filter, find}
use Rattle.frame_parse.specs.Entries.{FdeRecord}
use Rattle.frame_parse.specs.Sections.{SectionData, covers}
use Rattle.reg_model.specs.declared.span.Member.{Member}
use Rattle.reg_model.specs.declared.answer.Update.{Update}
use Rattle.reg_model.specs.declared.answer.Update.TheVariants.{Register, Deregister, Replace}
use Rattle.reg_model.specs.declared.answer.Update.TheVariants.{Load, Unload}
use Rattle.fde_members.specs.declared.members.MembersFault.{MembersFault}
use Rattle.fde_members.specs.declared.members.MembersFault.TheVariants.{Far, NoMemory}

-- it has addresses; one whose first is 0 was thrown away by a linker
abbrev pub is_kept : FdeRecord → Bool
is_kept f = nat_lt 0 f.first && nat_lt 0 f.range

-- where an FDE stands, whose section is at this address
abbrev pub fde_place : ℕ → FdeRecord → ℕ
fde_place address f = (address + f.start) % 2 ^ 64

-- how far an FDE stands above a range's first address, counted from `low`
abbrev pub distance : ℕ → ℕ → ℕ → ℕ
distance low first fde = ((fde + (2 ^ 64 - first)) % 2 ^ 64 + (2 ^ 64 - low)) % 2 ^ 64

-- the FDE to which a member leads
abbrev pub fde_address : ℕ → Member → ℕ
fde_address low m = ((m.span.first + low) % 2 ^ 64 + m.payload) % 2 ^ 64

-- the member of an FDE
abbrev pub fde_member : ℕ → ℕ → FdeRecord → Member
fde_member low address f = record {
  span = record { first = f.first; last = f.first + f.range - 1 };
  payload = distance low f.first (fde_place address f);
}

-- those of FDEs, in order of bytes
abbrev pub members_at : ℕ → ℕ → List FdeRecord → List Member
members_at low address fdes = map (fde_member low address) (filter is_kept fdes)

-- those of a section
abbrev pub section_members : ℕ → SectionData → List Member
section_members low s = members_at low s.address s.fdes

-- its distance is a payload that a registry takes
abbrev pub is_near : Member → Bool
is_near m = nat_lt m.payload (2 ^ 32 - 1)

-- all are
abbrev pub AreNear : List Member → Type 0
AreNear members = All (λ m. is_near m ≡ true) members

-- Memory ran out, which says nothing; or an FDE that has addresses is too far from its code.
abbrev pub IsFaultOf : ℕ → ℕ → FdeRecord → MembersFault → Type 0
IsFaultOf low address f NoMemory = Unit {0}
IsFaultOf low address f (Far d) = (is_kept f ≡ true)
    × (is_near (fde_member low address f) ≡ false) × ((fde_member low address f).payload ≡ d)

-- Memory ran out, which says nothing; or an FDE is too far from its code, and this is the distance
-- of the first such one.
abbrev pub IsMembersFault : ℕ → SectionData → MembersFault → Type 0
IsMembersFault low s NoMemory = Unit {0}
IsMembersFault low s (Far d) =
    (m : Member) × (find (λ x. not (is_near x)) (section_members low s) ≡ Some m) × (m.payload ≡ d)

-- a member of an FDE of one of these sections
pub record IsFdeMember (low : ℕ) (sections : List SectionData) (m : Member) : Type 0 where
  pub section : SectionData
  pub fde : FdeRecord
  pub listed : Contains sections section
  pub among : Contains section.fdes fde
  pub kept : is_kept fde ≡ true
  pub is_member : m ≡ fde_member low section.address fde

-- it leads to an FDE of one of these sections that covers the address and begins with the member
pub record LeadsToFde (low : ℕ) (sections : List SectionData) (pc : ℕ) (m : Member) : Type 0 where
  pub section : SectionData
  pub fde : FdeRecord
  pub listed : Contains sections section
  pub among : Contains section.fdes fde
  pub has : covers pc fde ≡ true
  pub first : m.span.first ≡ fde.first
  pub leads : fde_address low m ≡ fde_place section.address fde

-- no address is covered by two FDEs
abbrev pub ShareNone : List FdeRecord → Type 0
ShareNone fdes = (pc : ℕ) (f g : FdeRecord) → Contains fdes f → Contains fdes g
    → covers pc f ≡ true → covers pc g ≡ true → f ≡ g

-- the update adds no member but one of these sections'
abbrev pub AddsOnly : ℕ → List SectionData → Update → Type 0
AddsOnly low sections (Register m) = IsFdeMember low sections m
AddsOnly low sections (Replace m) = IsFdeMember low sections m
AddsOnly low sections (Load m) = IsFdeMember low sections m
AddsOnly low sections (Deregister base) = Unit {0}
AddsOnly low sections (Unload base) = Unit {0}

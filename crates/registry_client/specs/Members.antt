-- Members, as C tells them and is told them.
use Rattle.std.specs.Prelude.{ℕ, ◌+◌, ◌-◌, ◌^◌, ◌<◌, ◌≤◌, List, [], ◌∷◌}
use Rattle.reg_model.specs.declared.span.Member.{Member}
use Rattle.registry_client.specs.declared.member.MemberFault.{MemberFault}
use Rattle.registry_client.specs.declared.member.MemberFault.TheVariants.{Addresses, Payload}
use Rattle.registry_client.specs.declared.member.RegistryMember.{RegistryMember}

-- it has addresses, all below 2^64 - 1, and one of so many payloads
pub record IsGivenMember (payloads : ℕ) (r : RegistryMember) : Type 0 where
  pub some : 0 < r.size
  pub below : r.first + r.size ≤ 2 ^ 64 - 1
  pub payload : r.payload < payloads

-- it has addresses, all below 2^64 - 1
abbrev pub HasAddresses : RegistryMember → Type 0
HasAddresses r = (0 < r.size) × (r.first + r.size ≤ 2 ^ 64 - 1)

-- the first thing that stands against it
abbrev pub IsMemberFault : ℕ → RegistryMember → MemberFault → Type 0
IsMemberFault payloads r Addresses = ¬ HasAddresses r
IsMemberFault payloads r Payload = HasAddresses r × (payloads ≤ r.payload)

-- the member that C tells
abbrev pub given_member : RegistryMember → Member
given_member r = record {
  span = record { first = r.first; last = r.first + r.size - 1 };
  payload = r.payload;
}

-- all are, and each begins at or above the end of the one before
abbrev pub AreGivenMembers : ℕ → ℕ → List RegistryMember → Type 0
AreGivenMembers payloads low [] = Unit {0}
AreGivenMembers payloads low (r ∷ members) = IsGivenMember payloads r × (low ≤ r.first)
    × AreGivenMembers payloads (r.first + r.size) members

-- what C is told of a member
abbrev pub member_told : Member → RegistryMember
member_told m = record {
  first = m.span.first;
  size = m.span.last - m.span.first + 1;
  payload = m.payload;
}

-- where there is none
abbrev pub no_member : RegistryMember
no_member = record { first = 0; size = 0; payload = 0 }

-- A registry that is made for C, or why it isn't.
use Rattle.std.specs.Prelude.{◌≡◌, ℕ, false, List, map, Option, Result, Ok, Err}
use Rattle.c_handle.specs.Limits.{MayHaveSize, IsTooFewOrMany, size_told}
use Rattle.word_rule.specs.Logs.{first_log}
use Rattle.word_rule.specs.Places.{ALLOWANCE}
use Rattle.reg_model.specs.declared.answer.Half.TheVariants.{Loaded, Registered}
use Rattle.registry_client.specs.Clients.{ClientData, empty_cache, opened}
use Rattle.registry_client.specs.Members.{AreGivenMembers, given_member}
use Rattle.registry_client.specs.declared.limits.LimitFault.{LimitFault}
use Rattle.registry_client.specs.declared.limits.LimitFault.TheVariants.{Fixed, NoMemory, Size}
use Rattle.registry_client.specs.declared.limits.RegistryLimits.{RegistryLimits}
use Rattle.registry_client.specs.declared.member.RegistryMember.{RegistryMember}

-- the fixed members are members, each above the one before
abbrev pub AreFixedMembers : RegistryLimits → List RegistryMember → Type 0
AreFixedMembers l fixed = AreGivenMembers l.payloads 0 fixed

-- why the fixed members aren't kept
abbrev pub IsUnfixed : ℕ → List RegistryMember → LimitFault → Type 0
IsUnfixed payloads fixed NoMemory = Unit {0}
IsUnfixed payloads fixed Fixed = ¬ AreGivenMembers payloads 0 fixed
IsUnfixed payloads fixed _ = ⊥

-- the first client of a new registry, which has all update calls
pub record IsFirst (l : RegistryLimits) (fixed : List RegistryMember) (c : ClientData) : Type 0
  where
    pub terms : c.words.terms ≡ record {
      nodes = l.nodes;
      loads = l.loads;
      payloads = l.payloads;
      fixed = map given_member fixed;
    }
    pub me : c.me ≡ record {
      table = c.words.table;
      left = ALLOWANCE;
      log = first_log c.words.terms;
    }
    pub registered : c.registered ≡ empty_cache Registered
    pub loaded : c.loaded ≡ empty_cache Loaded
    pub idle : c.begun ≡ false
    pub kept : c.lost ≡ false
    pub name : c.name ≡ l.name

-- The registry was made; or the first thing that stands against it is this one. That memory ran out
-- says nothing.
abbrev pub IsNew : RegistryLimits → List RegistryMember → Result ClientData LimitFault → Type 0
IsNew l fixed (Ok c) = MayHaveSize l.nodes l.loads × AreFixedMembers l fixed × IsFirst l fixed c
IsNew l fixed (Err NoMemory) = Unit {0}
IsNew l fixed (Err (Size fault)) = IsTooFewOrMany l.nodes l.loads fault
IsNew l fixed (Err Fixed) = MayHaveSize l.nodes l.loads × (¬ AreFixedMembers l fixed)

-- what C is told of it
abbrev pub made_told : Result ClientData LimitFault → ℕ
made_told (Ok c) = 0
made_told (Err NoMemory) = 1
made_told (Err (Size fault)) = size_told fault
made_told (Err Fixed) = 4

-- C has the handle, or why there is none.
abbrev pub TellsNew : RegistryLimits → List RegistryMember → ℕ → Option ClientData → Type 0
TellsNew l fixed told held = (result : Result ClientData LimitFault)
    × IsNew l fixed result × (told ≡ made_told result) × (held ≡ opened result)

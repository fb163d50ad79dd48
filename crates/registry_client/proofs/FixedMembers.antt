-- The fixed members that C tells, as those of a registry.
use Rattle.std.proofs.Common.{◌≡◌, ℕ, ◌+◌, ◌-◌, ◌<◌, List, [], ◌∷◌, map, subst, arith}
use Rattle.std.specs.List.{AllByRecursion}
use Rattle.reg_model.specs.SpanData.{IsSpan}
use Rattle.segment_array.specs.Ascending.{AscendFrom}
use Rattle.registry_client.specs.Members.{AreGivenMembers, IsGivenMember, given_member}
use Rattle.registry_client.specs.declared.member.RegistryMember.{RegistryMember}

-- the address behind its last one
behind : (payloads : ℕ) (r : RegistryMember) → IsGivenMember payloads r → r.first + r.size ≡ r.first + r.size - 1 + 1
behind payloads r told = let some = told.some in omega (arith, some)

pub told_ascend : (payloads low : ℕ) (members : List RegistryMember) → AreGivenMembers payloads low members → AscendFrom low (map given_member members)
told_ascend payloads low [] told = tt
told_ascend payloads low (r ∷ members) told = (
  told.1,
  (let some = told.0.some in omega (arith, some)),
  subst (λ n. AscendFrom n (map given_member members)) (behind payloads r told.0) (told_ascend payloads (r.first + r.size) members told.2),
)

pub told_members : (payloads low : ℕ) (members : List RegistryMember) → AreGivenMembers payloads low members → AllByRecursion (λ m. IsSpan m.span × (m.payload < payloads)) (map given_member members)
told_members payloads low [] told = tt
told_members payloads low (r ∷ members) told = (
  (
    record {
      ordered = let some = told.0.some in omega (arith, some);
      below_top = let some = told.0.some in let below = told.0.below in omega (arith, some, below);
    },
    told.0.payload,
  ),
  told_members payloads (r.first + r.size) members told.2,
)

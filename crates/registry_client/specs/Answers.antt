-- What C is told of a try of an update.
use Rattle.std.specs.Prelude.{◌≡◌, ℕ, Result, Ok, Err}
use Rattle.reg_model.specs.declared.answer.Inserted.{Inserted}
use Rattle.reg_model.specs.declared.answer.Inserted.TheVariants as inserted
use Rattle.reg_model.specs.declared.answer.Loading.{Loading}
use Rattle.reg_model.specs.declared.answer.Loading.TheVariants as loading
use Rattle.reg_model.specs.declared.answer.Removed.{Removed}
use Rattle.reg_model.specs.declared.answer.Removed.TheVariants as removed
use Rattle.reg_model.specs.declared.answer.Replaced.{Replaced}
use Rattle.reg_model.specs.declared.answer.Replaced.TheVariants as replaced
use Rattle.reg_model.specs.declared.span.Member.{Member}
use Rattle.registry_client.specs.Clients.{ClientData}
use Rattle.registry_client.specs.Kinds.{DONE, OVERLAP, ABSENT, FULL, SPENT, BUSY}
use Rattle.registry_client.specs.Kinds.{NO_MEMBER, NO_PAYLOAD}
use Rattle.registry_client.specs.Members.{member_told, no_member}
use Rattle.registry_client.specs.declared.member.MemberFault.{MemberFault}
use Rattle.registry_client.specs.declared.member.MemberFault.TheVariants.{Addresses, Payload}
use Rattle.registry_client.specs.declared.member.RegistryMember.{RegistryMember}
use Rattle.registry_client.specs.declared.attempt.RegistryAnswer.{RegistryAnswer}
use Rattle.registry_client.specs.declared.attempt.Attempt.{Attempt}
use Rattle.registry_client.specs.declared.attempt.Attempt.TheVariants.{Answered, Busy, NoMember}

-- what C tells has no addresses for a member, or no payload
abbrev pub fault_kind : MemberFault → ℕ
fault_kind Addresses = NO_MEMBER
fault_kind Payload = NO_PAYLOAD

-- A kind, with the number of an accepted update or the stamp of any other answer, and a member.
abbrev pub done_told : ℕ → RegistryAnswer
done_told number = record { kind = DONE; number = number; stamp = 0; member = no_member }

abbrev pub removed_told : ℕ → Member → RegistryAnswer
removed_told number m = record { kind = DONE; number = number; stamp = 0; member = member_told m }

abbrev pub overlap_told : Member → ℕ → RegistryAnswer
overlap_told m stamp = record { kind = OVERLAP; number = 0; stamp = stamp; member = member_told m }

abbrev pub stamp_told : ℕ → ℕ → RegistryAnswer
stamp_told kind stamp = record { kind = kind; number = 0; stamp = stamp; member = no_member }

-- the answer of a try, or what is told of one that has none
abbrev pub answer_or_told : {A : Type 0} → Attempt A → Result A RegistryAnswer
answer_or_told (Answered answer) = Ok answer
answer_or_told (Busy why) = Err (stamp_told BUSY 0)
answer_or_told (NoMember why) = Err (stamp_told (fault_kind why) 0)

-- of a registration
abbrev pub insertion_told : Result Inserted RegistryAnswer → RegistryAnswer
insertion_told (Ok (inserted.Done number)) = done_told number
insertion_told (Ok (inserted.Overlap m stamp)) = overlap_told m stamp
insertion_told (Ok (inserted.Full stamp)) = stamp_told FULL stamp
insertion_told (Ok inserted.Spent) = stamp_told SPENT 0
insertion_told (Err told) = told

-- of a load, as of a registration
abbrev pub loading_told : Result Loading RegistryAnswer → RegistryAnswer
loading_told (Ok (loading.Done number)) = insertion_told (Ok (inserted.Done number))
loading_told (Ok (loading.Overlap m stamp)) = insertion_told (Ok (inserted.Overlap m stamp))
loading_told (Ok (loading.LoadFull stamp)) = insertion_told (Ok (inserted.Full stamp))
loading_told (Ok loading.Spent) = insertion_told (Ok inserted.Spent)
loading_told (Err told) = told

-- of a removal, from either half
abbrev pub removal_told : Result Removed RegistryAnswer → RegistryAnswer
removal_told (Ok (removed.Done number m)) = removed_told number m
removal_told (Ok (removed.NotFound stamp)) = stamp_told ABSENT stamp
removal_told (Ok removed.Spent) = stamp_told SPENT 0
removal_told (Err told) = told

-- of a replacement: the member that was there before, of the span that C told
abbrev pub replacement_told : RegistryMember → Result Replaced RegistryAnswer → RegistryAnswer
replacement_told r (Ok (replaced.Done number payload)) =
    record { kind = DONE; number = number; stamp = 0; member = record r { payload = payload } }
replacement_told r (Ok (replaced.NotFound stamp)) = stamp_told ABSENT stamp
replacement_told r (Ok replaced.Spent) = stamp_told SPENT 0
replacement_told r (Err told) = told

-- An update was tried, which is told in so many words.
abbrev pub TellsAttempt : {A : Type 0} → (ClientData → ClientData → Attempt A → Type 0)
    → (Result A RegistryAnswer → RegistryAnswer) → RegistryAnswer
    → ClientData → ClientData → Type 0
TellsAttempt {A} step told answer c c' =
    (attempt : Attempt A) × (step c c' attempt × (answer ≡ told (answer_or_told attempt)))

-- What a try of an update makes of a client.
use Rattle.std.specs.Prelude.{◌≡◌, ℕ, true, false}
use Rattle.array_publish.specs.Update.{TellsLoad, TellsUnload}
use Rattle.btree_change.specs.Insertion.{AnswersInsertion}
use Rattle.btree_change.specs.Removal.{AnswersRemoval}
use Rattle.btree_change.specs.Replacement.{AnswersReplacement}
use Rattle.tree_descent.specs.Updates.{GivesUp}
use Rattle.version_locks.specs.Locking.{IsBusyAt}
use Rattle.word_rule.specs.declared.log.LockId.TheVariants as lock
use Rattle.reg_model.specs.declared.answer.Inserted.{Inserted}
use Rattle.reg_model.specs.declared.answer.Inserted.TheVariants as inserted
use Rattle.reg_model.specs.declared.answer.Loading.{Loading}
use Rattle.reg_model.specs.declared.answer.Loading.TheVariants as loading
use Rattle.reg_model.specs.declared.answer.Removed.{Removed}
use Rattle.reg_model.specs.declared.answer.Removed.TheVariants as removed
use Rattle.reg_model.specs.declared.answer.Replaced.{Replaced}
use Rattle.reg_model.specs.declared.answer.Replaced.TheVariants as replaced
use Rattle.registry_client.specs.Clients.{ClientData}
use Rattle.registry_client.specs.Members.{IsGivenMember, IsMemberFault, given_member}
use Rattle.registry_client.specs.Tries.{IsSpent, TriesCall, is_lost}
use Rattle.registry_client.specs.declared.attempt.Attempt.{Attempt}
use Rattle.registry_client.specs.declared.attempt.Attempt.TheVariants.{Answered, Busy, NoMember}
use Rattle.registry_client.specs.declared.member.MemberFault.{MemberFault}
use Rattle.registry_client.specs.declared.member.RegistryMember.{RegistryMember}

-- what C tells is a member that may be added
abbrev pub MayAdd : ClientData → RegistryMember → Type 0
MayAdd c r = IsGivenMember c.words.terms.payloads r

-- it isn't, for this reason, and nothing was done
abbrev pub IsNoMember : RegistryMember → MemberFault → ClientData → ClientData → Type 0
IsNoMember r why c c' = IsMemberFault c.words.terms.payloads r why × (c' ≡ c)

-- A registration was tried.
abbrev pub Registers : RegistryMember → ClientData → ClientData → Attempt Inserted → Type 0
Registers r c c' (NoMember why) = IsNoMember r why c c'
Registers r c c' (Busy why) = MayAdd c r × TriesCall (GivesUp why) true (is_lost why) c c'
Registers r c c' (Answered inserted.Spent) = MayAdd c r × IsSpent c c'
Registers r c c' (Answered answer) = MayAdd c r
    × TriesCall (λ k k'. AnswersInsertion c.words.terms (given_member r) answer k k') false false c
    c'

-- A removal of what is registered.
abbrev pub Deregisters : ℕ → ClientData → ClientData → Attempt Removed → Type 0
Deregisters base c c' (NoMember why) = ⊥
Deregisters base c c' (Busy why) = TriesCall (GivesUp why) true (is_lost why) c c'
Deregisters base c c' (Answered removed.Spent) = IsSpent c c'
Deregisters base c c' (Answered answer) =
    TriesCall (λ k k'. AnswersRemoval c.words.terms base answer k k') false false c c'

-- A replacement.
abbrev pub Replaces : RegistryMember → ClientData → ClientData → Attempt Replaced → Type 0
Replaces r c c' (NoMember why) = IsNoMember r why c c'
Replaces r c c' (Busy why) = MayAdd c r × TriesCall (GivesUp why) true (is_lost why) c c'
Replaces r c c' (Answered replaced.Spent) = MayAdd c r × IsSpent c c'
Replaces r c c' (Answered answer) = MayAdd c r
    × TriesCall (λ k k'. AnswersReplacement c.words.terms (given_member r) answer k k') false false
    c c'

-- A load.
abbrev pub Loads : RegistryMember → ClientData → ClientData → Attempt Loading → Type 0
Loads r c c' (NoMember why) = IsNoMember r why c c'
Loads r c c' (Busy why) = MayAdd c r × TriesCall (IsBusyAt lock.Loader why) true false c c'
Loads r c c' (Answered loading.Spent) = MayAdd c r × IsSpent c c'
Loads r c c' (Answered answer) = MayAdd c r
    × TriesCall (λ k k'. TellsLoad c.words.terms (given_member r) k k' answer) false false c c'

-- An unload.
abbrev pub Unloads : ℕ → ClientData → ClientData → Attempt Removed → Type 0
Unloads base c c' (NoMember why) = ⊥
Unloads base c c' (Busy why) = TriesCall (IsBusyAt lock.Loader why) true false c c'
Unloads base c c' (Answered removed.Spent) = IsSpent c c'
Unloads base c c' (Answered answer) =
    TriesCall (λ k k'. TellsUnload c.words.terms base k k' answer) false false c c'

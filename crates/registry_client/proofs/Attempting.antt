-- Tries of a client that may add a member: the answers of four variants.
use Rattle.std.proofs.Common.{◌≡◌, ◌∙◌, ◌<◌, ◌≤◌, ℕ, Bool, List, [], true, false, true≢false, refl, ap, subst, arith}
use Rattle.array_publish.specs.Update.{TellsLoad}
use Rattle.btree_change.specs.Insertion.{AnswersInsertion, TriesInsertion}
use Rattle.btree_change.specs.Replacement.{AnswersReplacement, TriesReplacement}
use Rattle.reg_model.specs.declared.answer.Inserted.{Inserted}
use Rattle.reg_model.specs.declared.answer.Inserted.TheVariants as inserted
use Rattle.reg_model.specs.declared.answer.Replaced.{Replaced}
use Rattle.reg_model.specs.declared.answer.Replaced.TheVariants as replaced
use Rattle.reg_model.specs.declared.answer.Loading.{Loading}
use Rattle.reg_model.specs.declared.answer.Loading.TheVariants as loading
use Rattle.registry_core.specs.Begun.{TriesLoad}
use Rattle.word_rule.specs.CallerData.{CallerData, WordsData, due, surplus}
use Rattle.word_rule.specs.Places.{CALL_CREDIT}
use Rattle.word_rule.specs.declared.log.Terms.{Terms}
use Rattle.reg_model.specs.declared.span.Member.{Member}
use Rattle.tree_descent.specs.Paths.{IsLeftOut}
use Rattle.tree_descent.specs.Updates.{GivesUp}
use Rattle.version_locks.specs.declared.locking.Busy.{Busy}
use Rattle.version_locks.specs.declared.locking.Busy.TheVariants as busy
use Rattle.word_rule.specs.Callers.{IsIdle}
use Rattle.registry_client.proofs.Caches.{GoOnToFit, adds_none, goes_on}
use Rattle.registry_client.specs.Clients.{ClientData, IsClient, begun_count}
use Rattle.registry_client.specs.Members.{IsGivenMember, given_member}
use Rattle.registry_client.specs.Tries.{Begins, TriesCall, is_lost}
use Rattle.registry_client.specs.Updates.{Loads, MayAdd, Registers, Replaces}
use Rattle.registry_client.specs.declared.attempt.Attempt.TheVariants.{Answered}
use Rattle.registry_client.specs.declared.member.RegistryMember.{RegistryMember}

pub may_add : (r : RegistryMember) (v c : ClientData) (payloads : ℕ) → payloads ≡ v.words.terms.payloads → v ≡ c → IsGivenMember payloads r → MayAdd c r
may_add r v c payloads has same is = subst (λ n. IsGivenMember n r) (has ∙ ap (λ (z : ClientData). z.words.terms.payloads) same) is

-- an answer of a member in a registry's words, by what both are
pub answer_of : (step : Terms → Member → Type 0) (w v : WordsData) (m n : Member) → w ≡ v → m ≡ n → step w.terms m → step v.terms n
answer_of step w v m n same is s = subst (λ (z : WordsData). step z.terms n) same (subst (step w.terms) is s)

module _ (r : RegistryMember) (c mid : ClientData) (k : CallerData) (may : MayAdd c r) (b : Begins c mid) where
  abbrev pub answered : ClientData
  answered = record mid { me = k; begun = false }

  -- the call was answered by a step of the caller from where it was begun
  stepped : (step : Terms → CallerData → CallerData → Type 0) → step mid.words.terms mid.me k → TriesCall (step c.words.terms) false false c answered
  stepped step s = record {
    may = b.may;
    stepped = subst (λ (z : ClientData). step z.words.terms z.me k) b.begun s;
    words = ap (λ (z : ClientData). z.words) b.begun;
    registered = ap (λ (z : ClientData). z.registered) b.begun;
    loaded = ap (λ (z : ClientData). z.loaded) b.begun;
    name = ap (λ (z : ClientData). z.name) b.begun;
    begun_now = refl;
    lost_now = ap (λ (z : ClientData). z.lost) b.begun ∙ b.may.0;
  }

  never_spent : surplus mid.me < CALL_CREDIT → ⊥
  never_spent cannot = (let can = b.spare in omega (arith, can, cannot))

  pub registered : (answer : Inserted) → TriesInsertion mid.words.terms (given_member r) mid.me k answer → Registers r c answered (Answered answer)
  registered inserted.Spent s = absurd (never_spent s.0)
  registered (inserted.Done number) s = (may, stepped (λ t. AnswersInsertion t (given_member r) (inserted.Done number)) s.1)
  registered (inserted.Overlap other stamp) s = (may, stepped (λ t. AnswersInsertion t (given_member r) (inserted.Overlap other stamp)) s.1)
  registered (inserted.Full stamp) s = (may, stepped (λ t. AnswersInsertion t (given_member r) (inserted.Full stamp)) s.1)

  pub given : (answer : Replaced) → TriesReplacement mid.words.terms (given_member r) mid.me k answer → Replaces r c answered (Answered answer)
  given replaced.Spent s = absurd (never_spent s.0)
  given (replaced.Done number payload) s = (may, stepped (λ t. AnswersReplacement t (given_member r) (replaced.Done number payload)) s.1)
  given (replaced.NotFound stamp) s = (may, stepped (λ t. AnswersReplacement t (given_member r) (replaced.NotFound stamp)) s.1)

  pub loaded : (answer : Loading) → TriesLoad mid.words.terms (given_member r) mid.me k answer → Loads r c answered (Answered answer)
  loaded loading.Spent s = absurd (never_spent s.0)
  loaded (loading.Done number) s = (may, stepped (λ t k k'. TellsLoad t (given_member r) k k' (loading.Done number)) s.1)
  loaded (loading.Overlap other stamp) s = (may, stepped (λ t k k'. TellsLoad t (given_member r) k k' (loading.Overlap other stamp)) s.1)
  loaded (loading.LoadFull stamp) s = (may, stepped (λ t k k'. TellsLoad t (given_member r) k k' (loading.LoadFull stamp)) s.1)

-- a client that may try holds nothing
pub idle_begun : (c mid : ClientData) → IsClient mid → Begins c mid → IsIdle mid.me.log
idle_begun c mid is b = record { held = is.held; out = is.out (ap (λ (z : ClientData). z.lost) b.begun ∙ b.may.0); loader = is.loader }

-- what is left of one that gave up
none_out : (why : Busy) (out : List ℕ) → IsLeftOut why out → is_lost why ≡ false → out ≡ []
none_out (busy.Taken id) out left kept = left
none_out busy.Raced out left kept = left
none_out busy.Lost out left kept = absurd (true≢false kept)

count_most : (b : Bool) → begun_count b ≤ 1
count_most true = omega arith
count_most false = omega arith

pub gave_up : GoOnToFit → (mid : ClientData) (why : Busy) (k : CallerData) → IsClient mid → GivesUp why mid.me k → 0 < due k → IsClient (record mid { me = k; lost = is_lost why })
gave_up law mid why k is g begun =
    let one = count_most mid.begun in
    goes_on law mid k mid.begun (is_lost why) (adds_none mid.me k (ap (λ r. r.own) g.calls.receipts)) is (g.calls.caller.table ∙ is.home) g.nothing.0 (g.calls.caller.loader ∙ is.loader) (none_out why k.log.holdings.out g.nothing.1) (omega (arith, begun, one))

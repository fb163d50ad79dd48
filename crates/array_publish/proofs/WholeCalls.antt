-- A whole update call: the lock is taken, the update answered, the lock let go.
use Rattle.std.proofs.Common.{◌≡◌, ℕ, ◌+◌, ◌-◌, ◌<◌, ◌++◌, List, [], ◌∷◌, sym, refl, ap, ◌∙◌, subst, arith, Bool, true, false, Ok, Some, None, IsSomeAnd, append_assoc}
use Rattle.reg_model.specs.declared.span.Member.{Member}
use Rattle.reg_model.specs.declared.answer.Loading.{Loading}
use Rattle.reg_model.specs.declared.answer.Loading.TheVariants as loading
use Rattle.reg_model.specs.declared.answer.Removed.{Removed}
use Rattle.reg_model.specs.declared.answer.Removed.TheVariants as removed
use Rattle.reg_model.specs.declared.answer.Receipt.{Receipt}
use Rattle.reg_model.specs.declared.answer.Receipt.TheVariants as receipt
use Rattle.reg_model.specs.declared.answer.Update.{Update}
use Rattle.word_rule.specs.declared.log.LockId.TheVariants as lock
use Rattle.word_rule.specs.declared.log.Log.{Log}
use Rattle.word_rule.specs.declared.log.Terms.{Terms}
use Rattle.word_rule.specs.CallerData.{CallerData, WordsData}
use Rattle.version_locks.specs.Locking.{Locks}
use Rattle.array_publish.specs.Update.{AnswersLoad, AnswersUnload, AnswersWith, CallsWith, EndsTry, HoldsCopies, IsClean, IsFreeAgain, IsRightLoad, IsRightUnload, LoadsMember, TellsLoad, TellsUnload, UnloadsMember, after_answer, after_letting_go, begun, is_loaded, is_unloaded, one_if}

-- the lock let go of, accepted or not
let_go : (accepted : Bool) (v : Log) → after_letting_go accepted v ≡ record v { loader = None; trace = record v.trace { writes = v.trace.writes + 1 }; budget = record v.budget { credit = v.budget.credit - one_if accepted } }
let_go true v = refl
let_go false v =
    let kept : v.budget.credit ≡ v.budget.credit - 0 = omega arith in (λ i. record v { loader = None; trace = record v.trace { writes = v.trace.writes + 1 }; budget = record v.budget { credit = kept i } })

-- the call of one that held no lock: locked, answered, let go
pub whole_call : (right : List Update → Type 0) (r : Receipt) (accepted : Bool) (k1 k2 k3 k4 : CallerData) → Locks lock.Loader k1 k2 → AnswersWith right r accepted k2 k3 → k4 ≡ record k3 { log = after_letting_go accepted k3.log } → CallsWith right r accepted k1 k4
whole_call right r accepted k1 k2 k3 k4 locked p gone =
    let writes : k1.log.trace.writes + locked.1 + 1 + p.2 + 1 ≡ k1.log.trace.writes + (locked.1 + 1 + p.2 + 1) = omega arith in (
      p.0,
      locked.0 ++ p.1,
      locked.1 + 1 + p.2 + 1,
      p.3,
      (
        p.5.0,
        gone ∙ ((λ i. record k3 { log = let_go accepted k3.log i })
            ∙ (ap (λ (k : CallerData). record k { log = record k.log { loader = None; trace = record k.log.trace { writes = k.log.trace.writes + 1 }; budget = record k.log.budget { credit = k.log.budget.credit - one_if accepted } } }) (p.5.1 ∙ ap (λ (k : CallerData). record k { log = after_answer p.0 p.1 p.2 p.3 (Some p.4) r accepted k.log }) locked.3.2)
            ∙ (λ i. record k1 {
              log = record k1.log {
                past = p.0;
                budget = record { allowance = k1.log.budget.allowance - one_if accepted; credit = k1.log.budget.credit - one_if accepted };
                receipts = record k1.log.receipts { own = k1.log.receipts.own ++ r ∷ [] };
                trace = record k1.log.trace { loads = append_assoc k1.log.trace.loads locked.0 p.1 i; writes = writes i };
                sights = p.3;
                loader = None;
              };
            }))),
      ),
    )

-- its terms were those of the words before it took the lock
pub terms_told : (t : Terms) (k1 k2 : CallerData) → Locks lock.Loader k1 k2 → k2.log.terms ≡ t → k1.log.terms ≡ t
terms_told t k1 k2 locked told = sym (ap (λ (k : CallerData). k.log.terms) locked.3.2) ∙ told

-- what a try leaves of its caller, where it was answered
pub ends_try : {A : Type 0} (w : WordsData) (up : Bool) (answer : A) (k1 k2 k4 : CallerData) {v : Log} → Locks lock.Loader k1 k2 → k2.log.terms ≡ w.terms → k4 ≡ record k1 { log = v } → v.loader ≡ None → v.holdings ≡ k1.log.holdings → v.lineage ≡ k1.log.lineage → EndsTry w up (Ok answer) k1 k4
ends_try w up answer k1 k2 k4 locked told is loader holdings lineage = record {
  terms = terms_told w.terms k1 k2 locked told;
  busy = tt;
  free = subst (IsFreeAgain k1) (sym is) (record { table = refl; loader = loader; holdings = holdings; lineage = lineage });
}

past_kept : (k1 k2 : CallerData) → Locks lock.Loader k1 k2 → k2.log.past ≡ k1.log.past
past_kept k1 k2 locked = ap (λ (k : CallerData). k.log.past) locked.3.2

pub load_told : (t : Terms) (m : Member) (k1 k2 k3 k4 : CallerData) (a : Loading) (published : Bool) → published ≡ is_loaded a → Locks lock.Loader k1 k2 → AnswersLoad t m k2 k3 a → k4 ≡ record k3 { log = after_letting_go published k3.log } → TellsLoad t m k1 k4 a
load_told t m k1 k2 k3 k4 a published is locked q gone =
    whole_call (λ past. IsRightLoad t m k1.log.past past a) (receipt.Load m a) (is_loaded a) k1 k2 k3 k4 locked (q.0, q.1, q.2, q.3, q.4, (subst (λ z. IsRightLoad t m z q.0 a) (past_kept k1 k2 locked) q.5.0, q.5.1, q.5.2)) (subst (λ b. k4 ≡ record k3 { log = after_letting_go b k3.log }) is gone)

pub unload_told : (t : Terms) (base : ℕ) (k1 k2 k3 k4 : CallerData) (a : Removed) (published : Bool) → published ≡ is_unloaded a → Locks lock.Loader k1 k2 → AnswersUnload t base k2 k3 a → k4 ≡ record k3 { log = after_letting_go published k3.log } → TellsUnload t base k1 k4 a
unload_told t base k1 k2 k3 k4 a published is locked q gone =
    whole_call (λ past. IsRightUnload t base k1.log.past past a) (receipt.Unload base a) (is_unloaded a) k1 k2 k3 k4 locked (q.0, q.1, q.2, q.3, q.4, (subst (λ z. IsRightUnload t base z q.0 a) (past_kept k1 k2 locked) q.5.0, q.5.1, q.5.2)) (subst (λ b. k4 ≡ record k3 { log = after_letting_go b k3.log }) is gone)

-- a call that waits: begun, and answered
pub loads_whole : (t : Terms) (m : Member) (k0 k1 k4 : CallerData) (answer : Loading) → 0 < k0.left → k1 ≡ record k0 { left = k0.left - 1 } → TellsLoad t m k1 k4 answer → LoadsMember t m k0 k4 answer
loads_whole t m k0 k1 k4 answer some_left is p = go answer (subst (λ (k : CallerData). TellsLoad t m k k4 answer) is p)
  where
    go : (a : Loading) → TellsLoad t m (begun k0) k4 a → LoadsMember t m k0 k4 a
    go (loading.Done n) q = (some_left, q)
    go (loading.Overlap o s) q = (some_left, q)
    go (loading.LoadFull s) q = (some_left, q)
    go loading.Spent q = absurd q.4.0

pub unloads_whole : (t : Terms) (base : ℕ) (k0 k1 k4 : CallerData) (answer : Removed) → 0 < k0.left → k1 ≡ record k0 { left = k0.left - 1 } → TellsUnload t base k1 k4 answer → UnloadsMember t base k0 k4 answer
unloads_whole t base k0 k1 k4 answer some_left is p = go answer (subst (λ (k : CallerData). TellsUnload t base k k4 answer) is p)
  where
    go : (a : Removed) → TellsUnload t base (begun k0) k4 a → UnloadsMember t base k0 k4 a
    go (removed.Done n m) q = (some_left, q)
    go (removed.NotFound s) q = (some_left, q)
    go removed.Spent q = absurd q.4.0

-- a lock just taken has all words of both copies, and nothing was stored under it
pub taken_copies : (k k' : CallerData) → Locks lock.Loader k k' → HoldsCopies k'.log.terms k'
taken_copies k k' p = subst (λ (z : CallerData). HoldsCopies z.log.terms z) (sym p.3.2) (p.3.1.active, p.3.1.spare)

pub taken_clean : (k k' : CallerData) → Locks lock.Loader k k' → IsClean k'
taken_clean k k' p = subst IsClean (sym p.3.2) p.3.1.clean

-- what is asked where the lock is let go
pub answered_clean : (right : List Update → Type 0) (r : Receipt) (accepted : Bool) (k k' : CallerData) → AnswersWith right r accepted k k' → IsSomeAnd k'.log.loader (λ h. h.stored ≡ false)
answered_clean right r accepted k k' p = subst (λ (z : CallerData). IsSomeAnd z.log.loader (λ h. h.stored ≡ false)) (sym p.5.1) p.5.2

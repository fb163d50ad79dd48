-- Receipts: a right answer holds where it was given, and holds on.
use Rattle.std.proofs.Common.{◌≡◌, ℕ, ◌+◌, ◌-◌, ◌*◌, ◌<◌, ◌≤◌, List, [], ◌∷◌, ◌++◌, length, Option, Some, None, MatchOption, IfSome, sym, ◌∙◌, ap, subst, arith, length-append}
use Rattle.std.specs.List.{slice_get}
use Rattle.std.specs.Option.{option_to_list}
use Rattle.std.proofs.lemmas.List.{append-nil}
use Rattle.reg_model.proofs.Histories.{state_after-append, IsHistory-append, state_at-append, state_at-length, slice_get-append, slice_get-next}
use Rattle.reg_model.specs.State.{State}
use Rattle.reg_model.specs.History.{Fits, after, state_at}
use Rattle.reg_model.specs.Receipt.{moment, accepted, made, made_before, IsRight, HadRegistered, WasFilled, Holds}
use Rattle.reg_model.specs.PlainRegistryData.{PlainRegistryData, LeadsTo, Step}
use Rattle.reg_model.specs.declared.answer.Update.{Update}
use Rattle.reg_model.specs.declared.answer.Receipt.{Receipt}
use Rattle.reg_model.specs.declared.answer.Receipt.TheVariants.{Register, Deregister, Replace, Load, Unload, Query}
use Rattle.reg_model.specs.declared.answer.Inserted.TheVariants as inserted

-- the update's place in the history stays
numbered_on : (history more : List Update) (n : ℕ) (a : Option Update) → n ≤ length history → IfSome a (λ u. (0 < n) × (slice_get history (n - 1) ≡ Some u)) → IfSome a (λ u. (0 < n) × (slice_get (history ++ more) (n - 1) ≡ Some u))
numbered_on history more n None within numbered = tt
numbered_on history more n (Some u) within numbered = (let above : 0 < n = numbered.0 in (above, slice_get-append history more (n - 1) (omega arith) ∙ numbered.1))

before_within : (a : Option Update) (n m : ℕ) → n ≤ m → elim a [ None ↦ n | Some u ↦ n - 1 ] ≤ m
before_within None n m within = within
before_within (Some u) n m within = omega arith

-- so many members were registered at a moment that stays
had_on : (start : State) (history more : List Update) (since least fewer : ℕ) (r : Receipt) → fewer ≤ least → moment r ≤ length history → HadRegistered least start history since r → HadRegistered fewer start (history ++ more) since r
had_on start history more since least fewer (Register m (inserted.Full stamp)) less within (j, from, to, many) =
    (j, from, to, rw (state_at-append start history more j (omega arith)) (omega (arith, less, many)))
had_on start history more since least fewer (Register m (inserted.Done number)) less within filled = tt
had_on start history more since least fewer (Register m (inserted.Overlap other stamp)) less within filled = tt
had_on start history more since least fewer (Register m inserted.Spent) less within filled = tt
had_on start history more since least fewer (Deregister base answer) less within filled = tt
had_on start history more since least fewer (Replace m answer) less within filled = tt
had_on start history more since least fewer (Load m answer) less within filled = tt
had_on start history more since least fewer (Unload base answer) less within filled = tt
had_on start history more since least fewer (Query half pc found) less within filled = tt

-- an answer that holds goes on to hold when the history grows and callers come
pub holds_on : (start : State) (history more : List Update) (nodes callers callers' since : ℕ) (r : Receipt) → callers ≤ callers' → Holds start history nodes callers since r → Holds start (history ++ more) nodes callers' since r
holds_on start history more nodes callers callers' since r later holds = record {
  within = (let within = holds.within in rw length-append (omega arith));
  numbered = numbered_on history more (moment r) (accepted r) holds.within holds.numbered;
  right = rw (state_at-append start history more (made_before r) (before_within (accepted r) (moment r) (length history) holds.within)) holds.right;
  filled = record {
    ten = had_on start history more since 10 10 r (omega arith) holds.within holds.filled.ten;
    most = λ two. had_on start history more since (2 * (nodes - 4 * callers)) (2 * (nodes - 4 * callers')) r (omega (arith, later)) holds.within (holds.filled.most (omega (arith, later, two)));
  };
}

before_is : (a : Option Update) (n m : ℕ) → MatchOption a (n ≡ m) (λ u. n ≡ m + 1) → elim a [ None ↦ n | Some u ↦ n - 1 ] ≡ m
before_is None n m is = is
before_is (Some u) n m is = omega arith

moment_is : (a : Option Update) (n m : ℕ) (P : Type 0) (Q R : Update → Type 0) → MatchOption a ((n ≡ m) × P) (λ u. Q u × (n ≡ m + 1) × R u) → MatchOption a (n ≡ m) (λ u. n ≡ m + 1)
moment_is None n m P Q R changes = changes.0
moment_is (Some u) n m P Q R changes = changes.1

-- the receipt was given after all of the history, and before what it adds
right_here : (start : State) (history more : List Update) (now : PlainRegistryData) (k : ℕ) (r : Receipt) → LeadsTo start history now → k ≡ now.updates → IsRight now.state r → IsRight (state_at start (history ++ more) k) r
right_here start history more now k r leads is right =
    let P : State → Type 0 = λ s. IsRight s r in
    let here : state_at start (history ++ more) k ≡ now.state = ap (state_at start (history ++ more)) (is ∙ sym leads.updates) ∙ state_at-length start history more ∙ leads.state in
    subst P (sym here) right

grown : (start : State) (history : List Update) (old new : PlainRegistryData) (n : ℕ) (a : Option Update) → LeadsTo start history old → MatchOption a ((n ≡ old.updates) × (new ≡ old)) (λ u. Fits u old.state × (n ≡ old.updates + 1) × (new ≡ record { state = after u old.state; updates = old.updates + 1 })) → LeadsTo start (history ++ option_to_list a) new
grown start history old new n None leads changes = rw (append-nil, changes.1) leads
grown start history old new n (Some u) leads changes = rw changes.2 (record {
  lawful = IsHistory-append start history (u ∷ []) leads.lawful (rw leads.state (changes.0, tt));
  state = state_after-append start history (u ∷ []) ∙ ap (after u) leads.state;
  updates = (let updates = leads.updates in rw length-append (omega arith));
})

numbered_next : (history : List Update) (n m : ℕ) (a : Option Update) → length history ≡ m → MatchOption a (n ≡ m) (λ u. n ≡ m + 1) → (n ≤ length (history ++ option_to_list a)) × IfSome a (λ u. (0 < n) × (slice_get (history ++ option_to_list a) (n - 1) ≡ Some u))
numbered_next history n m None is moment = (rw append-nil (omega arith), tt)
numbered_next history n m (Some u) is moment =
    let last : n - 1 ≡ length history = omega arith in
    (rw length-append (omega arith), (omega arith, ap (slice_get (history ++ u ∷ [])) last ∙ slice_get-next history u []))

-- What a step of the registry for one thread answers holds in the history, which grows by what the step made.
pub step_holds : (start : State) (history : List Update) (old new : PlainRegistryData) (nodes callers since : ℕ) (r : Receipt) → LeadsTo start history old → Step old r new → WasFilled start (history ++ made r) nodes callers since r → LeadsTo start (history ++ made r) new × Holds start (history ++ made r) nodes callers since r
step_holds start history old new nodes callers since r leads step filled =
    let now = moment_is (accepted r) (moment r) old.updates (new ≡ old) (λ u. Fits u old.state) (λ u. new ≡ record { state = after u old.state; updates = old.updates + 1 }) step.changes in
    let next = numbered_next history (moment r) old.updates (accepted r) leads.updates now in (
      grown start history old new (moment r) (accepted r) leads step.changes,
      record {
        within = next.0;
        numbered = next.1;
        right = right_here start history (made r) old (made_before r) r leads (before_is (accepted r) (moment r) old.updates now) step.right;
        filled = filled;
      },
    )

-- Receipts: what an answer says of a history.
use Rattle.std.specs.Prelude.{◌≡◌, ℕ, ◌-◌, ◌*◌, ◌<◌, ◌≤◌, List, [], ◌∷◌, length, max}
use Rattle.std.specs.Prelude.{Option, Some, None, IsNone, IsSomeAnd, slice_get, IfSome}
use Rattle.std.specs.Prelude.{MatchOption}
use Rattle.std.specs.Option.{option_to_list}
use Rattle.reg_model.specs.State.{State, objects, at_base, at_span, IsFree, IsLowestOverlap}
use Rattle.reg_model.specs.SpanData.{SpanData}
use Rattle.reg_model.specs.History.{state_at}
use Rattle.reg_model.specs.Query.{query}
use Rattle.reg_model.specs.declared.span.Member.{Member}
use Rattle.reg_model.specs.declared.answer.Update.{Update}
use Rattle.reg_model.specs.declared.answer.Update.TheVariants as update
use Rattle.reg_model.specs.declared.answer.Found.{Found}
use Rattle.reg_model.specs.declared.answer.Found.TheVariants.{Hit, Miss}
use Rattle.reg_model.specs.declared.answer.Inserted.TheVariants as inserted
use Rattle.reg_model.specs.declared.answer.Loading.TheVariants as loading
use Rattle.reg_model.specs.declared.answer.Removed.{Removed}
use Rattle.reg_model.specs.declared.answer.Removed.TheVariants as removed
use Rattle.reg_model.specs.declared.answer.Replaced.{Replaced}
use Rattle.reg_model.specs.declared.answer.Replaced.TheVariants as replaced
use Rattle.reg_model.specs.declared.answer.Half.TheVariants.{Registered, Loaded}
use Rattle.reg_model.specs.declared.answer.Place.{Place}
use Rattle.reg_model.specs.declared.answer.Receipt.{Receipt}
use Rattle.reg_model.specs.declared.answer.Receipt.TheVariants.{Register, Deregister, Replace}
use Rattle.reg_model.specs.declared.answer.Receipt.TheVariants.{Load, Unload, Query}

-- the member that was found
abbrev pub member_of : Found → Option Member
member_of (Hit member stamp) = Some member
member_of (Miss stamp) = None

-- the stamp of an answer to a query
abbrev pub stamp_of : Found → ℕ
stamp_of (Hit member stamp) = stamp
stamp_of (Miss stamp) = stamp

-- the number of an accepted update, and the stamp of any other answer
abbrev pub moment : Receipt → ℕ
moment (Register m (inserted.Done number)) = number
moment (Register m (inserted.Overlap other stamp)) = stamp
moment (Register m (inserted.Full stamp)) = stamp
moment (Register m inserted.Spent) = 0
moment (Deregister base (removed.Done number m)) = number
moment (Deregister base (removed.NotFound stamp)) = stamp
moment (Deregister base removed.Spent) = 0
moment (Replace m (replaced.Done number payload)) = number
moment (Replace m (replaced.NotFound stamp)) = stamp
moment (Replace m replaced.Spent) = 0
moment (Load m (loading.Done number)) = number
moment (Load m (loading.Overlap other stamp)) = stamp
moment (Load m (loading.LoadFull stamp)) = stamp
moment (Load m loading.Spent) = 0
moment (Unload base (removed.Done number m)) = number
moment (Unload base (removed.NotFound stamp)) = stamp
moment (Unload base removed.Spent) = 0
moment (Query half pc found) = stamp_of found

-- the update that was accepted
abbrev pub accepted : Receipt → Option Update
accepted (Register m (inserted.Done number)) = Some (update.Register m)
accepted (Deregister base (removed.Done number m)) = Some (update.Deregister base)
accepted (Replace m (replaced.Done number payload)) = Some (update.Replace m)
accepted (Load m (loading.Done number)) = Some (update.Load m)
accepted (Unload base (removed.Done number m)) = Some (update.Unload base)
accepted _ = None

-- the updates that the receipt adds to a history: the one that was accepted, or none
abbrev pub made : Receipt → List Update
made r = option_to_list (accepted r)

-- how many updates were made before the answer: the one that it accepts is not among them
abbrev pub made_before : Receipt → ℕ
made_before r = elim (accepted r) [ None ↦ moment r | Some u ↦ moment r - 1 ]

-- the answer to a removal: the member that goes, or that there is none
abbrev pub IsRightRemoval : ℕ → List Member → Removed → Type 0
IsRightRemoval base members (removed.Done number m) = at_base base members ≡ Some m
IsRightRemoval base members (removed.NotFound stamp) = IsNone (at_base base members)
IsRightRemoval base members removed.Spent = ⊥

-- the answer to a replacement: the payload that the member had, or that none has this whole span
abbrev pub IsRightReplacement : SpanData → List Member → Replaced → Type 0
IsRightReplacement span members (replaced.Done number payload) =
    IsSomeAnd (at_span span members) (λ m. m.payload ≡ payload)
IsRightReplacement span members (replaced.NotFound stamp) = IsNone (at_span span members)
IsRightReplacement span members replaced.Spent = ⊥

-- The answer is right of the state before it. That an accepted update fits is said of the history.
-- Spent is no answer of a registry that has a state.
abbrev pub IsRight : State → Receipt → Type 0
IsRight s (Register m (inserted.Done number)) = Unit {0}
IsRight s (Register m (inserted.Overlap other stamp)) = IsLowestOverlap m.span s.registered other
IsRight s (Register m (inserted.Full stamp)) = IsFree m.span s.registered
IsRight s (Register m inserted.Spent) = ⊥
IsRight s (Deregister base answer) = IsRightRemoval base s.registered answer
IsRight s (Replace m answer) = IsRightReplacement m.span s.registered answer
IsRight s (Load m (loading.Done number)) = Unit {0}
IsRight s (Load m (loading.Overlap other stamp)) = IsLowestOverlap m.span (objects s) other
IsRight s (Load m (loading.LoadFull stamp)) =
    IsFree m.span (objects s) × (length s.loaded ≡ s.loads)
IsRight s (Load m loading.Spent) = ⊥
IsRight s (Unload base answer) = IsRightRemoval base s.loaded answer
IsRight s (Query half pc found) = query half pc s ≡ member_of found

-- at some moment since, and not after the stamp of a Full, so many members were registered
abbrev pub HadRegistered : ℕ → State → List Update → ℕ → Receipt → Type 0
HadRegistered least start history since (Register m (inserted.Full stamp)) =
    (j : ℕ) × (since ≤ j) × (j ≤ stamp) × (least ≤ length (state_at start history j).registered)
HadRegistered least start history since _ = Unit {0}

-- A tree that is full has two leaves or a full one. All nodes but those that callers may have out
-- are in it, each for two members at least.
pub record WasFilled (start : State) (history : List Update) (nodes callers since : ℕ)
    (r : Receipt) : Type 0 where
  pub ten : HadRegistered 10 start history since r
  pub most : 2 ≤ nodes - 4 * callers
      → HadRegistered (2 * (nodes - 4 * callers)) start history since r

-- an accepted update stands in the history under its number
abbrev pub IsAtNumber : List Update → Receipt → Type 0
IsAtNumber history r =
    IfSome (accepted r) (λ u. (0 < moment r) × (slice_get history (moment r - 1) ≡ Some u))

-- The receipt holds in the history, of a registry with so many nodes and callers. `since` is the
-- greatest stamp or number before it on its list.
pub record Holds (start : State) (history : List Update) (nodes callers since : ℕ)
    (r : Receipt) : Type 0 where
  pub within : moment r ≤ length history
  pub numbered : IsAtNumber history r
  pub right : IsRight (state_at start history (made_before r)) r
  pub filled : WasFilled start history nodes callers since r

-- each receipt of a list holds
abbrev pub AllHold : State → List Update → ℕ → ℕ → ℕ → List Receipt → Type 0
AllHold start history nodes callers since [] = Unit {0}
AllHold start history nodes callers since (r ∷ receipts) =
    Holds start history nodes callers since r
    × AllHold start history nodes callers (max since (moment r)) receipts

-- Along a list stamps and numbers never fall, and a number is above every stamp and number before
-- it.
abbrev pub AreInOrder : ℕ → List Receipt → Type 0
AreInOrder since [] = Unit {0}
AreInOrder since (r ∷ receipts) =
    MatchOption (accepted r) (since ≤ moment r) (λ u. since < moment r)
    × AreInOrder (moment r) receipts

-- the loader's half was asked exactly where the registered half had a miss
abbrev pub IsPlace : Place → Type 0
IsPlace place = elim place.registered [
  | Hit m stamp ↦ place.loaded ≡ None
  | Miss stamp ↦ elim place.loaded [ None ↦ ⊥ | Some found ↦ Unit {0} ]
]

-- the receipts of a place: one for each half that was asked
abbrev pub receipts_of_place : ℕ → Place → List Receipt
receipts_of_place pc place =
    Query Registered pc place.registered ∷ elim place.loaded [
      | None ↦ []
      | Some found ↦ Query Loaded pc found ∷ []
    ]

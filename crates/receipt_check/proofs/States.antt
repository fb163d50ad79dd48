-- The states that a history goes through, one update after another.
use Rattle.std.proofs.Common.{◌≡◌, ◌↔◌, ℕ, ◌+◌, ◌-◌, ◌*◌, ◌<◌, ◌≤◌, zero, suc, List, [], ◌∷◌, length, Option, Some, None, Bool, true, false, cond, leb, min, inl, inr, refl, sym, ◌∙◌, ap, subst, add-one, arith}
use Rattle.std.specs.List.{slice_get}
use Rattle.std.proofs.lemmas.Bool.{cases_lt, leb-true, leb-false}
use Rattle.std.proofs.lemmas.List.{take_min}
use Rattle.reg_model.specs.State.{State}
use Rattle.reg_model.specs.History.{after, state_after, state_at}
use Rattle.reg_model.specs.Receipt.{moment, accepted, made_before, HadRegistered, WasFilled, Holds}
use Rattle.reg_model.specs.declared.answer.Update.{Update}
use Rattle.reg_model.specs.declared.answer.Inserted.TheVariants as inserted
use Rattle.reg_model.specs.declared.answer.Receipt.{Receipt}
use Rattle.reg_model.specs.declared.answer.Receipt.TheVariants.{Register, Deregister, Replace, Load, Unload, Query}
use Rattle.receipt_check.specs.declared.account.Told.{Told}
use Rattle.receipt_check.specs.Flaws.{since_of}
use Rattle.receipt_check.specs.declared.last_moments.LastMoments.{LastMoments}
use Rattle.receipt_check.specs.declared.lists.Lists.{Lists}
use Rattle.receipt_check.specs.declared.present.Present.{Present}
use Rattle.receipt_check.specs.Maps.{ShowsState}
use Rattle.receipt_check.specs.Sweep.{IsLastWith, last_with, IsPresent, HadLast, IsFilledNow, HoldsNow}

next_state : (s : State) (history : List Update) (k : ℕ) (u : Update) → slice_get history k ≡ Some u → state_at s history (suc k) ≡ after u (state_at s history k)
next_state s [] zero u is = absurd cc
next_state s [] (suc k) u is = absurd cc
next_state s (v ∷ history) zero u is = let same : v ≡ u = cc in ap (λ (w : Update). after w s) same
next_state s (v ∷ history) (suc k) u is = next_state (after v s) history k u is

-- the state after one update more
pub state_more : (s : State) (history : List Update) (k : ℕ) (u : Update) → slice_get history k ≡ Some u → state_at s history (k + 1) ≡ after u (state_at s history k)
state_more s history k u is = rw add-one (next_state s history k u is)

below_of : (history : List Update) (k : ℕ) (u : Update) → slice_get history k ≡ Some u → k < length history
below_of [] zero u is = absurd cc
below_of [] (suc k) u is = absurd cc
below_of (v ∷ history) zero u is = omega arith
below_of (v ∷ history) (suc k) u is = let below = below_of history k u is in omega arith

-- after the last update the state stays
pub state_past : (s : State) (history : List Update) (k : ℕ) → state_at s history (min k (length history)) ≡ state_at s history k
state_past s history k = ap (state_after s) (take_min k history)

module _ (start : State) (history : List Update) where
  -- how many were registered after so many updates
  abbrev count : ℕ → ℕ
  count k = length (state_at start history k).registered

  -- by whether so many are registered now
  by_count : (least made n last : ℕ) (b : Bool) → leb least n ≡ b → (least ≤ n → IsLastWith least start history made (made + 1)) → (n < least → IsLastWith least start history made last) → IsLastWith least start history made (cond b (made + 1) last)
  by_count least made n last true is up past = up (leb-true least n is)
  by_count least made n last false is up past = past (leb-false least n is)

  -- nothing was registered at first
  pub present_first : (lists : Lists) (moments : LastMoments) → start.registered ≡ [] → ShowsState lists start → ((least : ℕ) → last_with moments 0 least ≡ cond (leb least 0) 1 0) → IsPresent start history (record { lists = lists; made = 0; moments = moments })
  present_first lists moments none shows first =
      let few : count 0 ≡ 0 = ap length none in
      record {
        within = omega arith;
        state = shows;
        last = λ least. subst (IsLastWith least start history 0) (sym (first least)) (by_count least 0 0 0 (leb least 0) refl (λ least_is. record {
          past = omega arith;
          there = λ _. (let at : count 0 ≡ 0 = few in omega arith);
          since = λ k from to. absurd (omega arith);
        }) (λ more. record {
          past = omega arith;
          there = λ never. absurd (omega arith);
          since = λ k from to. (let here : k ≡ 0 = omega arith in let same : count k ≡ count 0 = ap count here in omega arith);
        }));
      }

  -- one moment more, with so many and with fewer
  last_there : (least made last : ℕ) → IsLastWith least start history made last → least ≤ count (made + 1) → IsLastWith least start history (made + 1) (made + 1 + 1)
  last_there least made last before many = record {
    past = omega arith;
    there = λ _. (let is : made + 1 + 1 - 1 ≡ made + 1 = omega arith in subst (λ k. least ≤ count k) (sym is) many);
    since = λ k from to. absurd (omega arith);
  }

  last_before : (least made last : ℕ) → IsLastWith least start history made last → count (made + 1) < least → IsLastWith least start history (made + 1) last
  last_before least made last before few = record {
    past = (let past = before.past in omega arith);
    there = before.there;
    since = λ k from to. elim (cases_lt made k) [
      | inl above ↦ (let is : k ≡ made + 1 = omega arith in subst (λ j. count j < least) (sym is) few)
      | inr up ↦ before.since k from up
    ];
  }

  -- one update more
  pub present_more : (u : Update) (p q : Present) (n : ℕ) → slice_get history p.made ≡ Some u → IsPresent start history p → ((s : State) → ShowsState p.lists s → ShowsState q.lists (after u s)) → q.made ≡ p.made + 1 → ((s : State) → ShowsState q.lists s → n ≡ length s.registered) → ((least : ℕ) → last_with q.moments (p.made + 1) least ≡ cond (leb least n) (p.made + 2) (last_with p.moments p.made least)) → IsPresent start history q
  present_more u p q n is present next made counted moved =
      let within = below_of history p.made u is in
      let shows : ShowsState q.lists (state_at start history (p.made + 1)) = subst (ShowsState q.lists) (sym (state_more start history p.made u is)) (next (state_at start history p.made) present.state) in
      let many : n ≡ count (p.made + 1) = counted (state_at start history (p.made + 1)) shows in
      let two : p.made + 2 ≡ p.made + 1 + 1 = omega arith in
      record {
        within = omega arith;
        state = subst (λ k. ShowsState q.lists (state_at start history k)) (sym made) shows;
        last = λ least. subst (λ k. IsLastWith least start history k (last_with q.moments k least)) (sym made) (subst (IsLastWith least start history (p.made + 1)) (sym (moved least ∙ ap (λ k. cond (leb least n) k (last_with p.moments p.made least)) two)) (by_count least (p.made + 1) n (last_with p.moments p.made least) (leb least n) refl (λ up. last_there least p.made (last_with p.moments p.made least) (present.last least) (omega arith)) (λ few. last_before least p.made (last_with p.moments p.made least) (present.last least) (omega arith))));
      }

  -- the last moment with so many answers whether there was one since
  filled_since : (least made last since : ℕ) → IsLastWith least start history made last → ((since < last) ↔ ((j : ℕ) × (since ≤ j) × (j ≤ made) × (least ≤ count j)))
  filled_since least made last since is = (
    λ below. (last - 1, omega arith, (let past = is.past in omega arith), is.there (omega arith)),
    λ (j, from, to, many). elim (cases_lt since last) [
      | inl below ↦ below
      | inr past ↦ absurd (let few = is.since j (omega arith) to in omega arith)
    ],
  )

  module _ (least made last : ℕ) (is : IsLastWith least start history made last) (since : ℕ) where
    had_here : (r : Receipt) → made ≡ made_before r → (HadLast last since r ↔ HadRegistered least start history since r)
    had_here (Register m (inserted.Full stamp)) here = subst (λ k. (since < last) ↔ ((j : ℕ) × (since ≤ j) × (j ≤ k) × (least ≤ count j))) here (filled_since least made last since is)
    had_here (Register m (inserted.Done number)) here = (λ _. tt, λ _. tt)
    had_here (Register m (inserted.Overlap other stamp)) here = (λ _. tt, λ _. tt)
    had_here (Register m inserted.Spent) here = (λ _. tt, λ _. tt)
    had_here (Deregister base answer) here = (λ _. tt, λ _. tt)
    had_here (Replace m answer) here = (λ _. tt, λ _. tt)
    had_here (Load m answer) here = (λ _. tt, λ _. tt)
    had_here (Unload base answer) here = (λ _. tt, λ _. tt)
    had_here (Query half pc found) here = (λ _. tt, λ _. tt)

  filled_here : (nodes : ℕ) (p : Present) (t : Told) → IsPresent start history p → p.made ≡ made_before t.receipt → (IsFilledNow nodes p t ↔ WasFilled start history nodes t.callers (since_of t) t.receipt)
  filled_here nodes p t present here =
      let had = λ (least : ℕ). had_here least p.made (last_with p.moments p.made least) (present.last least) (since_of t) t.receipt here in
      let most = 2 * (nodes - 4 * t.callers) in (
        λ filled. record { ten = (had 10).0 filled.ten; most = λ two. (had most).0 (filled.most two) },
        λ filled. record { ten = (had 10).1 filled.ten; most = λ two. (had most).1 (filled.most two) },
      )

  -- an answer is given after its moment or one before
  before_le : (a : Option Update) (n : ℕ) → elim a [ None ↦ n | Some u ↦ n - 1 ] ≤ n
  before_le None n = omega arith
  before_le (Some u) n = omega arith

  -- the present state is that of updates that were asked for, as many as there are
  pub state_there : (p : Present) (before : ℕ) → IsPresent start history p → p.made ≡ min before (length history) → ShowsState p.lists (state_at start history before)
  state_there p before present made = subst (ShowsState p.lists) (ap (state_at start history) made ∙ state_past start history before) present.state

  -- what there is now tells whether the receipt holds
  pub holds_now : (nodes : ℕ) (p : Present) (t : Told) → IsPresent start history p → p.made ≡ min (made_before t.receipt) (length history) → (HoldsNow history (state_at start history (made_before t.receipt)) nodes p t ↔ Holds start history nodes t.callers (since_of t) t.receipt)
  holds_now nodes p t present made =
      let low = before_le (accepted t.receipt) (moment t.receipt) in (
        λ (within, numbered, right, filled). record {
          within = within;
          numbered = numbered;
          right = right;
          filled = (filled_here nodes p t present (omega arith)).0 filled;
        },
        λ holds. (holds.within, holds.numbered, holds.right, (filled_here nodes p t present (let within = holds.within in omega arith)).1 holds.filled),
      )

-- The first update that doesn't fit, found in the order of the turns.
use Rattle.std.proofs.Common.{◌≡◌, ℕ, ◌+◌, ◌-◌, ◌<◌, ◌≤◌, List, length, get_or, take, Option, Some, None, Bool, true, false, ◌&&◌, ◌==◌, IsTrue, ◌↔◌, min, All, inl, inr, refl, sym, ◌∙◌, ap, subst, arith}
use Rattle.std.specs.Option.{is_some, IfSome}
use Rattle.std.specs.List.{Contains}
use Rattle.std.proofs.lemmas.Bool.{cases_lt, false≢true, and_parts, eqb-true, eq-eqb}
use Rattle.std.proofs.lemmas.List.{get_or-take, get_or_read, take_all, length-take, length-map}
use Rattle.std.proofs.lemmas.List.Elements.{All-map, All-weaker, All-contains, Contains-get_or}
use Rattle.std.proofs.lemmas.List.Sorted.{IsPermutation-sym, All-permutation, Contains-permutation}
use Rattle.reg_model.specs.State.{State}
use Rattle.reg_model.specs.History.{Fits, state_at}
use Rattle.reg_model.specs.Receipt.{moment, accepted, made_before, IsRight}
use Rattle.reg_model.specs.Numbers.{has_number}
use Rattle.reg_model.specs.declared.answer.Update.{Update}
use Rattle.reg_model.specs.declared.answer.Receipt.{Receipt}
use Rattle.receipt_check.specs.declared.account.Told.{Told}
use Rattle.receipt_check.specs.declared.turns.Turn.{Turn}
use Rattle.receipt_check.specs.Flaws.{AccountData, told_history, HasOwnNumber, FitsInTurn, UpdateFits, IsFirstMisfit}
use Rattle.receipt_check.specs.declared.present.Present.{Present}
use Rattle.receipt_check.specs.Maps.{ShowsState}
use Rattle.receipt_check.specs.Sweep.{rows_of, AreInTurn, FitsNow, IsPresent}
use Rattle.receipt_check.proofs.States.{state_there}
use Rattle.receipt_check.proofs.InTurn.{timed_here, row_here}

module _ (start : State) (history : List Update) where
  -- the accepted update fits the state in which it was accepted
  abbrev pub FitsThere : Told → Type 0
  FitsThere t = FitsNow (state_at start history (made_before t.receipt)) t.receipt

  -- where an update has a number, that is the state before the number
  there_of : (r : Receipt) (a : Option Update) (k : ℕ) → accepted r ≡ a → (is_some a && (moment r == k + 1)) ≡ true → made_before r ≡ k
  there_of r None k is numbered = absurd (false≢true numbered)
  there_of r (Some u) k is numbered = rw (is, made_before) (let at = eqb-true (moment r) (k + 1) numbered in omega arith)

  both_parts : (a : Option Update) (P : Update → Type 0) (Q : Type 0) → is_some a ≡ true → IfSome a (λ u. P u × Q) → IfSome a P × Q
  both_parts None P Q some both = absurd (false≢true some)
  both_parts (Some u) P Q some both = both

  as_one : (a : Option Update) (P : Update → Type 0) (Q : Type 0) → IfSome a P × Q → IfSome a (λ u. P u × Q)
  as_one None P Q parts = tt
  as_one (Some u) P Q parts = parts

  -- an update that fits where it was accepted fits under its number
  pub fits_in_turn : (t : Told) (k : ℕ) → FitsThere t → FitsInTurn (state_at start history k) (k + 1) t
  fits_in_turn t k fits numbered = both_parts (accepted t.receipt) (λ u. Fits u (state_at start history k)) (IsRight (state_at start history k) t.receipt) (and_parts (is_some (accepted t.receipt)) (moment t.receipt == k + 1) numbered).0 (subst (λ j. FitsNow (state_at start history j) t.receipt) (there_of t.receipt (accepted t.receipt) k refl numbered) fits)

  pub fits_from_turn : (t : Told) (k : ℕ) → k ≡ made_before t.receipt → (IfSome (accepted t.receipt) (λ u. Fits u (state_at start history k)) × IsRight (state_at start history k) t.receipt) → FitsThere t
  fits_from_turn t k before parts = subst (λ j. FitsNow (state_at start history j) t.receipt) before (as_one (accepted t.receipt) (λ u. Fits u (state_at start history k)) (IsRight (state_at start history k) t.receipt) parts)

-- what fits the present state fits where it was accepted, if this is the moment before it
pub fits_as_told : (a : AccountData) (history : List Update) (t : Told) (p : Present) (b : Bool) → history ≡ told_history a → IsPresent a.start history p → p.made ≡ min (made_before t.receipt) (length history) → ((s : State) → ShowsState p.lists s → IsTrue b ↔ FitsNow s t.receipt) → IsTrue b ↔ FitsThere a.start (told_history a) t
fits_as_told a history t p b told present made fits =
    subst (λ (h : List Update). IsTrue b ↔ FitsThere a.start h t) told (fits (state_at a.start history (made_before t.receipt)) (state_there a.start history p (made_before t.receipt) present made))

module _ (a : AccountData) (turns : List Turn) (are : AreInTurn a.told turns) where
  abbrev Fitting : Told → Type 0
  Fitting = FitsThere a.start (told_history a)

  listed : (i : ℕ) (turn : Turn) → i < length turns → turn ≡ get_or turns i turn → Contains a.told turn.row.now
  listed i turn within is = Contains-permutation (rows_of turns) a.told turn.row.now (IsPermutation-sym a.told (rows_of turns) are.rows) (subst (Contains (rows_of turns)) (sym (row_here turns i turn within is)) (Contains-get_or (rows_of turns) i turn.row.now (rw length-map within)))

  -- those that were given in earlier states were passed
  pub earlier_fit : (i : ℕ) (turn : Turn) → i < length turns → turn ≡ get_or turns i turn → All (λ (t : Turn). Fitting t.row.now) (take i turns) → All (λ (t : Told). made_before t.receipt < turn.before → Fitting t) a.told
  earlier_fit i turn within is fit = All-permutation (λ (t : Told). made_before t.receipt < turn.before → Fitting t) (rows_of turns) a.told (IsPermutation-sym a.told (rows_of turns) are.rows) (All-map (λ (t : Told). made_before t.receipt < turn.before → Fitting t) (λ (t : Turn). t.row.now) turns (λ j d below less. elim (cases_lt j i) [
    | inl passed ↦ subst (λ (t : Turn). Fitting t.row.now) (get_or-take i turns j d passed) (fit j d (rw length-take (omega arith)))
    | inr ahead ↦ (let up : (get_or turns i d).before ≤ (get_or turns j d).before = are.rising i j d ahead below in let here : turn.before ≡ (get_or turns i d).before = ap (λ (t : Turn). t.before) (get_or_read turns i turn within is d) in let timed : (get_or turns j d).before ≡ made_before (get_or turns j d).row.now.receipt = are.timed j d below in absurd (omega arith))
  ]))

  all_fit : (i : ℕ) → length turns ≤ i → All (λ (t : Turn). Fitting t.row.now) (take i turns) → All Fitting a.told
  all_fit i past fit = All-permutation Fitting (rows_of turns) a.told (IsPermutation-sym a.told (rows_of turns) are.rows) (All-map Fitting (λ (t : Turn). t.row.now) turns (subst (λ (ts : List Turn). All (λ (t : Turn). Fitting t.row.now) ts) (take_all i turns past) fit))

  -- nothing was found in all turns
  pub updates_fit : (i : ℕ) → length turns ≤ i → All (λ (t : Turn). Fitting t.row.now) (take i turns) → (k : ℕ) → k < a.updates → UpdateFits a k
  updates_fit i past fit k below = All-weaker Fitting (FitsInTurn (state_at a.start (told_history a) k) (k + 1)) (λ t fits. fits_in_turn a.start (told_history a) t k fits) a.told (all_fit i past fit)

  -- what is known of a receipt that was accepted
  module _ (t : Told) (u : Update) (is : accepted t.receipt ≡ Some u) (own : HasOwnNumber a.told a.updates t) (within : Contains a.told t) (wrong : ¬ Fitting t) (earlier : All (λ (o : Told). made_before o.receipt < made_before t.receipt → Fitting o) a.told) where
    numbers : (0 < moment t.receipt) × (moment t.receipt ≤ a.updates) × All (λ (o : Told). o.line < t.line → has_number (moment t.receipt) o.receipt ≡ false) a.told
    numbers = rw is at own

    has_own : (n : ℕ) → n ≡ moment t.receipt → has_number n t.receipt ≡ true
    has_own n next = rw is (eq-eqb (moment t.receipt) n (sym next))

    misfit_of_update : IsFirstMisfit a t.line
    misfit_of_update =
        let k : ℕ = moment t.receipt - 1 in
        let before : made_before t.receipt ≡ k = rw (is, made_before) refl in
        let positive = numbers.0 in
        let up = numbers.1 in
        let next : k + 1 ≡ moment t.receipt = omega arith in (
          k,
          omega arith,
          λ j below. (λ x d inside numbered. fits_in_turn a.start (told_history a) (get_or a.told x d) j (earlier x d inside (let there = there_of a.start (told_history a) (get_or a.told x d).receipt (accepted (get_or a.told x d).receipt) j refl numbered in omega arith)) numbered),
          record {
            wrong = t;
            listed = within;
            here = refl;
            is_wrong = λ fits. wrong (fits_from_turn a.start (told_history a) t k (sym before) (fits (has_own (k + 1) next)));
            above = λ x d inside above numbered. absurd (false≢true (sym (numbers.2 x d inside above) ∙ subst (λ n. has_number n (get_or a.told x d).receipt ≡ true) next numbered));
          },
        )

  found_by : (t : Told) (o : Option Update) → accepted t.receipt ≡ o → HasOwnNumber a.told a.updates t → Contains a.told t → ¬ Fitting t → All (λ (o : Told). made_before o.receipt < made_before t.receipt → Fitting o) a.told → IsFirstMisfit a t.line
  found_by t None is own within wrong earlier = absurd (wrong (rw is tt))
  found_by t (Some u) is own within wrong earlier = misfit_of_update t u is own within wrong earlier

  -- the first turn whose update doesn't fit the state before it
  pub misfit_found : (i : ℕ) (turn : Turn) → All (HasOwnNumber a.told a.updates) a.told → i < length turns → turn ≡ get_or turns i turn → All (λ (t : Turn). Fitting t.row.now) (take i turns) → ¬ Fitting turn.row.now → IsFirstMisfit a turn.row.now.line
  misfit_found i turn own within is fit wrong =
      let inside = listed i turn within is in
      found_by turn.row.now (accepted turn.row.now.receipt) refl (All-contains (HasOwnNumber a.told a.updates) a.told turn.row.now own inside) inside wrong (subst (λ n. All (λ (t : Told). made_before t.receipt < n → Fitting t) a.told) (timed_here turns i turn within is are.timed) (earlier_fit i turn within is fit))

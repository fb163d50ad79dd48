-- The numbers of what is told without a flaw, and the history that they tell.
use Rattle.std.proofs.lemmas.Bool.{false_from_ne_true}
use Rattle.std.proofs.Common.{◌≡◌, ℕ, ◌+◌, ◌<◌, ◌≤◌, zero, suc, List, [], ◌∷◌, ◌++◌, length, get_or, take, Option, Some, None, IfSome, Bool, true, false, cond, ◌&&◌, leb, All, inl, inr, refl, sym, ◌∙◌, ap, subst, add-one, length-append, arith}
use Rattle.std.specs.List.{Contains, find}
use Rattle.std.specs.Option.{is_some, option_and_then, option_to_list}
use Rattle.std.proofs.lemmas.Bool.{cases_lt, eqb-true, leb-true, le-leb, and_parts, and_from, false≢true}
use Rattle.std.proofs.lemmas.List.{take-append-le, take_all}
use Rattle.std.proofs.lemmas.List.Elements.{All-weaker, All-map, All-head, All-tail, All-contains, All-contains_itself, Contains-append_right}
use Rattle.reg_model.specs.State.{State}
use Rattle.reg_model.specs.History.{Fits, IsHistory, state_after, state_at}
use Rattle.reg_model.specs.Receipt.{moment, accepted}
use Rattle.reg_model.specs.Numbers.{has_number, AreNumbered, history_of}
use Rattle.reg_model.specs.declared.answer.Update.{Update}
use Rattle.reg_model.specs.declared.answer.Receipt.{Receipt}
use Rattle.reg_model.proofs.Histories.{IsHistory-append}
use Rattle.receipt_check.specs.declared.account.Told.{Told}
use Rattle.receipt_check.specs.Flaws.{told_receipts, HasOwnNumber, accepted_count}
use Rattle.journal_check.proofs.Ascending.{Before, Ascends}
use Rattle.journal_check.proofs.Once.{times, times_cons, Within, total, total_is, each_once}
use Rattle.journal_check.proofs.Flawless.{mark, times_told, count_told}

pub from_some : (a : Option Update) (P : Type 0) → IfSome a (λ u. P) → is_some a ≡ true → P
from_some None P so is = absurd cc
from_some (Some u) P so is = so

pub number_parts : (k : ℕ) (r : Receipt) → has_number k r ≡ true → (is_some (accepted r) ≡ true) × (moment r ≡ k)
number_parts k r has = (let parts = and_parts (is_some (accepted r)) _ has in (parts.0, eqb-true (moment r) k parts.1))

times_zero : (k : ℕ) (told : List Told) → All (λ o. has_number k o.receipt ≡ false) told → times k (told_receipts told) ≡ 0
times_zero k [] none = refl
times_zero k (t ∷ told) none =
    let P : Told → Type 0 = λ o. has_number k o.receipt ≡ false in
    let one : Bool → ℕ = λ b. cond b 1 0 in
    let here : mark k t ≡ 0 = ap one (All-head P t told none) in
    let rest = times_zero k told (All-tail P t told none) in
    let all = times_told k t told in
    omega arith

module _ (all : List Told) (n : ℕ) where
  later_other : (k : ℕ) (t o : Told) → HasOwnNumber all n o → Contains all t → Before t o → has_number k t.receipt ≡ true → has_number k o.receipt ≡ false
  later_other k t o own listed before has = false_from_ne_true (has_number k o.receipt) (λ had.
      let parts = number_parts k o.receipt had in
      let new = (from_some (accepted o.receipt) _ own parts.0).2 in
      let other = All-contains (λ x. x.line < o.line → has_number (moment o.receipt) x.receipt ≡ false) all t new listed (before (number_parts k t.receipt has).0) in
      false≢true (sym (subst (λ (j : ℕ). has_number j t.receipt ≡ false) parts.1 other) ∙ has))

  once_told : (k : ℕ) (told : List Told) → All (HasOwnNumber all n) told → All (Contains all) told → Ascends told → times k (told_receipts told) ≤ 1
  once_told k [] own listed ascends = omega arith
  once_told k (t ∷ told) own listed ascends =
      let sum = times_told k t told in
      let one : Bool → ℕ = λ b. cond b 1 0 in
      elim (has_number k t.receipt) as (λ b. has_number k t.receipt ≡ b → times k (told_receipts (t ∷ told)) ≤ 1) [
        | true ↦ (λ has.
            let here : mark k t ≡ 1 = ap one has in
            let owns = All-tail (HasOwnNumber all n) t told own in
            let first = All-head (Contains all) t told listed in
            let rest = times_zero k told (λ i d within. later_other k t (get_or told i d) (owns i d within) first (ascends.0 i d within) has) in
            omega arith)
        | false ↦ (λ no.
            let here : mark k t ≡ 0 = ap one no in
            let rest = once_told k told (All-tail (HasOwnNumber all n) t told own) (All-tail (Contains all) t told listed) ascends.1 in
            omega arith)
      ] refl

own_within : (a : Option Update) (A B C : Type 0) → IfSome a (λ u. A × B × C) → IfSome a (λ u. A × B)
own_within None A B C own = tt
own_within (Some u) A B C own = (own.0, own.1)

outside : (n k : ℕ) (rs : List Receipt) → All (Within n) rs → ((0 < k) × (k ≤ n) → ⊥) → times k rs ≡ 0
outside n k [] within never = refl
outside n k (r ∷ rs) within never =
    let one : Bool → ℕ = λ b. cond b 1 0 in
    let P : ℕ → Type 0 = λ j. (0 < j) × (j ≤ n) in
    let no = false_from_ne_true (has_number k r) (λ had. let parts = number_parts k r had in never (subst P parts.1 (from_some (accepted r) _ (All-head (Within n) r rs within) parts.0))) in
    let here : one (has_number k r) ≡ 0 = ap one no in
    let rest = outside n k rs (All-tail (Within n) r rs within) never in
    let sum = times_cons k r rs in
    omega arith

-- numbers of their own, from 1 to n, and n of them
pub numbered_from : (told : List Told) (n : ℕ) → Ascends told → All (HasOwnNumber told n) told → accepted_count told ≡ n → AreNumbered n (told_receipts told)
numbered_from told n ascends own count k =
    let rs = told_receipts told in
    let within = All-map (Within n) (λ (t : Told). t.receipt) told (All-weaker (HasOwnNumber told n) (λ t. Within n t.receipt) (λ t own. own_within (accepted t.receipt) _ _ _ own) told own) in
    let all : total rs n ≡ n = total_is rs n within ∙ sym (count_told told) ∙ count in
    elim (leb 1 k && leb k n) as (λ b. (leb 1 k && leb k n) ≡ b → times k rs ≡ cond b 1 0) [
      | true ↦ (λ both. let parts = and_parts (leb 1 k) (leb k n) both in each_once rs n (λ j. once_told told n j told own (All-contains_itself told) ascends) all k (leb-true 1 k parts.0) (leb-true k n parts.1))
      | false ↦ (λ no. outside n k rs within (λ (above, below). false≢true (sym no ∙ and_from (leb 1 k) (leb k n) (le-leb 1 k above) (le-leb k n below))))
    ] refl

-- ---- the history that they tell

some_of : (a : Option Update) → is_some a ≡ true → (u : Update) × (a ≡ Some u)
some_of None is = absurd cc
some_of (Some u) is = (u, refl)

-- the accepted update with a number
record Finds (k : ℕ) (rs : List Receipt) (found : Option Receipt) : Type 0 where
  r : Receipt
  u : Update
  is : found ≡ Some r
  update : accepted r ≡ Some u
  listed : Contains rs r
  has : has_number k r ≡ true

find_once : (k : ℕ) (rs : List Receipt) → times k rs ≡ 1 → Finds k rs (find (has_number k) rs)
find_once k [] one = absurd (omega arith)
find_once k (x ∷ rs) one =
    let mark : Bool → ℕ = λ b. cond b 1 0 in
    let sum = times_cons k x rs in
    elim (has_number k x) as (λ b. has_number k x ≡ b → Finds k (x ∷ rs) (cond b (Some x) (find (has_number k) rs))) [
      | true ↦ (λ has. let update = some_of (accepted x) (number_parts k x has).0 in record { r = x; u = update.0; is = refl; update = update.1; listed = (0, omega arith, refl); has = has })
      | false ↦ (λ no.
          let none : mark (has_number k x) ≡ 0 = ap mark no in
          let rest = find_once k rs (omega arith) in
          record { r = rest.r; u = rest.u; is = rest.is; update = rest.update; listed = Contains-append_right (x ∷ []) rs rest.r rest.listed; has = rest.has })
    ] refl

module _ (rs : List Receipt) where
  abbrev Ones : ℕ → Type 0
  Ones n = (k : ℕ) → 0 < k → k ≤ n → times k rs ≡ 1

  one_more : (n : ℕ) (found : Finds (suc n) rs (find (has_number (suc n)) rs)) → history_of rs (suc n) ≡ history_of rs n ++ found.u ∷ []
  one_more n found = ap (λ (o : Option Receipt). history_of rs n ++ option_to_list (option_and_then accepted o)) found.is ∙ ap (λ (a : Option Update). history_of rs n ++ option_to_list a) found.update

  fewer : (n : ℕ) → Ones (suc n) → Ones n
  fewer n ones k above within = ones k above (omega arith)

  last : (n : ℕ) → Ones (suc n) → Finds (suc n) rs (find (has_number (suc n)) rs)
  last n ones = find_once (suc n) rs (ones (suc n) (omega arith) (omega arith))

  history_length : (n : ℕ) → Ones n → length (history_of rs n) ≡ n
  history_length zero ones = refl
  history_length (suc n) ones =
      let found = last n ones in
      let rest = history_length n (fewer n ones) in
      ap (λ (h : List Update). length h) (one_more n found) ∙ rw length-append (omega arith)

  take_history : (n m : ℕ) → Ones n → m ≤ n → take m (history_of rs n) ≡ history_of rs m
  take_history zero m ones less = (let none : 0 ≡ m = omega arith in subst (λ (j : ℕ). take j (history_of rs zero) ≡ history_of rs j) none refl)
  take_history (suc n) m ones less = elim (cases_lt n m) [
    | inl past ↦ (let all : suc n ≡ m = omega arith in let long = history_length (suc n) ones in subst (λ (j : ℕ). take j (history_of rs (suc n)) ≡ history_of rs j) all (take_all (suc n) (history_of rs (suc n)) (omega arith)))
    | inr before ↦
        let found = last n ones in
        let long = history_length n (fewer n ones) in
        ap (take m) (one_more n found) ∙ take-append-le m (history_of rs n) (found.u ∷ []) (omega arith) ∙ take_history n m (fewer n ones) before
  ]

  -- where each update fits the state before it, they are a history
  pub history_from : (start : State) (n : ℕ) → Ones n → ((k : ℕ) (r : Receipt) → k < n → Contains rs r → has_number (k + 1) r ≡ true → IfSome (accepted r) (λ u. Fits u (state_at start (history_of rs n) k))) → (m : ℕ) → m ≤ n → IsHistory start (history_of rs m)
  history_from start n ones fit zero less = tt
  history_from start n ones fit (suc m) less =
      let upto : Ones (suc m) = λ k above within. ones k above (omega arith) in
      let found = last m upto in
      let here = fit m found.r (omega arith) found.listed (rw add-one found.has) in
      let fits = subst (λ (a : Option Update). IfSome a (λ u. Fits u (state_at start (history_of rs n) m))) found.update here in
      let state : state_at start (history_of rs n) m ≡ state_after start (history_of rs m) = ap (state_after start) (take_history n m ones (omega arith)) in
      subst (IsHistory start) (sym (one_more m found)) (IsHistory-append start (history_of rs m) (found.u ∷ []) (history_from start n ones fit m (omega arith)) (subst (Fits found.u) state fits, tt))

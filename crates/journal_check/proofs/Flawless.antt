-- Nothing is wrong with what a lawful journal tells.
use Rattle.std.proofs.Common.{◌≡◌, ℕ, ◌+◌, ◌-◌, ◌<◌, ◌≤◌, zero, suc, List, [], ◌∷◌, length, Option, Some, None, IfSome, Bool, true, false, cond, ◌&&◌, eqb, leb, All, inl, inr, refl, sym, ◌∙◌, ap, subst, arith}
use Rattle.std.specs.List.{Contains, slice_get}
use Rattle.std.specs.Option.{is_some}
use Rattle.std.proofs.lemmas.Bool.{eqb-true, eq-eqb, leb-true, and_parts, false_from_ne_true}
use Rattle.std.proofs.lemmas.Bool.Decides.{nat_tests}
use Rattle.std.proofs.lemmas.List.Sums.{sum_by-cons}
use Rattle.std.proofs.lemmas.List.Elements.{All-weaker, All-map, All-nil, All-contains_itself, Contains-append_cases, Contains-push_cases}
use Rattle.reg_model.specs.State.{State}
use Rattle.reg_model.specs.History.{Fits, after, IsHistory, state_at}
use Rattle.reg_model.specs.Receipt.{moment, accepted, IsRight, AllHold, AreInOrder}
use Rattle.reg_model.specs.Numbers.{has_number, AreNumbered, history_of}
use Rattle.reg_model.specs.declared.answer.Update.{Update}
use Rattle.reg_model.specs.declared.answer.Receipt.{Receipt}
use Rattle.script_text.specs.ScriptData.{ScriptData}
use Rattle.script_text.specs.JournalData.{JournalData}
use Rattle.script_text.specs.Lawful.{IsLawfulJournal, RoundsHold, thread_receipts, in_one, start_of, done_after}
use Rattle.receipt_check.specs.declared.account.Told.{Told}
use Rattle.receipt_check.specs.declared.account.ReceiptFlaw.TheVariants.{Number, Count, History, Answer, Order, Round}
use Rattle.receipt_check.specs.Flaws.{AccountData, told_receipts, told_history, HasOwnNumber, FitsInTurn, HoldsAsTold, ComesInOrder, ComesInRound, accepted_count, IsFlawless}
use Rattle.journal_check.specs.Telling.{account_of}
use Rattle.journal_check.specs.declared.teller.Bounds.{Bounds}
use Rattle.journal_check.proofs.Receipts.{rounds_add}
use Rattle.journal_check.proofs.Each.{EachFrom, RoundsEach, rounds_each}
use Rattle.journal_check.proofs.Sides.{InRound, HoldsIn, InOrderAt, rounds_between, holds_each, order_each, order_from_zero}
use Rattle.journal_check.proofs.Once.{times, accepted_in, Within, total_is, total_of_ones}

-- ---- numbers

pub times_told : (k : ℕ) (t : Told) (told : List Told) → times k (told_receipts (t ∷ told)) ≡ cond (has_number k t.receipt) 1 0 + times k (told_receipts told)
times_told k t told = sum_by-cons (λ (r : Receipt). cond (has_number k r) 1 0) t.receipt (told_receipts told)

abbrev pub mark : ℕ → Told → ℕ
mark k t = cond (has_number k t.receipt) 1 0

counts_one : (k : ℕ) (x t : Told) → x ≡ t → has_number k t.receipt ≡ true → mark k x ≡ 1
counts_one k x t same has = (let one : Bool → ℕ = λ b. cond b 1 0 in ap (λ (u : Told). one (has_number k u.receipt)) same ∙ ap one has)

nowhere : {X : Type 0} (x : X) → Contains [] x → ⊥
nowhere x (k, within, is) = omega arith

-- one that is told stands among them, and two on different lines stand twice
listed_once : (k : ℕ) (told : List Told) (t : Told) → Contains told t → has_number k t.receipt ≡ true → 1 ≤ times k (told_receipts told)
listed_once k [] t listed has = absurd (nowhere t listed)
listed_once k (x ∷ told) t listed has =
    let all = times_told k x told in
    elim (Contains-append_cases (x ∷ []) told t listed) [
      | inl here ↦ elim (Contains-push_cases [] x t here) [
        | inl none ↦ absurd (nowhere t none)
        | inr same ↦ (let one = counts_one k x t same has in omega arith)
      ]
      | inr later ↦ (let rest = listed_once k told t later has in omega arith)
    ]

listed_twice : (k : ℕ) (told : List Told) (t o : Told) → Contains told t → Contains told o → o.line < t.line → has_number k t.receipt ≡ true → has_number k o.receipt ≡ true → 2 ≤ times k (told_receipts told)
listed_twice k [] t o listed other less has had = absurd (nowhere t listed)
listed_twice k (x ∷ told) t o listed other less has had =
    let all = times_told k x told in
    elim (Contains-append_cases (x ∷ []) told t listed) [
      | inl here ↦ elim (Contains-push_cases [] x t here) [
        | inl none ↦ absurd (nowhere t none)
        | inr same ↦ elim (Contains-append_cases (x ∷ []) told o other) [
          | inl here' ↦ elim (Contains-push_cases [] x o here') [
            | inl none ↦ absurd (nowhere o none)
            | inr same' ↦ (let lines : t.line ≡ o.line = ap (λ (u : Told). u.line) (sym same ∙ same') in absurd (omega arith))
          ]
          | inr later ↦ (let one = counts_one k x t same has in let rest = listed_once k told o later had in omega arith)
        ]
      ]
      | inr later ↦ elim (Contains-append_cases (x ∷ []) told o other) [
        | inl here' ↦ elim (Contains-push_cases [] x o here') [
          | inl none ↦ absurd (nowhere o none)
          | inr same' ↦ (let one = counts_one k x o same' had in let rest = listed_once k told t later has in omega arith)
        ]
        | inr later' ↦ (let rest = listed_twice k told t o later later' less has had in omega arith)
      ]
    ]

pub range_from : (m n c : ℕ) → c ≡ cond (leb 1 m && leb m n) 1 0 → 1 ≤ c → (0 < m) × (m ≤ n)
range_from m n c is some = elim (leb 1 m && leb m n) as (λ b. (leb 1 m && leb m n) ≡ b → c ≡ cond b 1 0 → (0 < m) × (m ≤ n)) [
  | true ↦ (λ both _. let parts = and_parts (leb 1 m) (leb m n) both in (let low = leb-true 1 m parts.0 in omega arith, leb-true m n parts.1))
  | false ↦ (λ _ none. absurd (omega arith))
] refl is

pub at_most_one : (b : Bool) (c : ℕ) → c ≡ cond b 1 0 → c ≤ 1
at_most_one true c is = omega arith
at_most_one false c is = omega arith

pub one_within : (n k c : ℕ) → 0 < k → k ≤ n → c ≡ cond (leb 1 k && leb k n) 1 0 → c ≡ 1
one_within n k c above within is = grind (arith, nat_tests)

pub if_some : (a : Option Update) (P : Type 0) → (is_some a ≡ true → P) → IfSome a (λ u. P)
if_some None P so = tt
if_some (Some u) P so = so refl

pub own_number : (r : Receipt) → is_some (accepted r) ≡ true → has_number (moment r) r ≡ true
own_number r is = rw is (eq-eqb (moment r) (moment r) refl)

module _ (told : List Told) (n : ℕ) (numbered : AreNumbered n (told_receipts told)) where
  is_within : (t : Told) → Contains told t → is_some (accepted t.receipt) ≡ true → (0 < moment t.receipt) × (moment t.receipt ≤ n)
  is_within t listed is = range_from (moment t.receipt) n (times (moment t.receipt) (told_receipts told)) (numbered (moment t.receipt)) (listed_once (moment t.receipt) told t listed (own_number t.receipt is))

  is_new : (t : Told) → Contains told t → is_some (accepted t.receipt) ≡ true → All (λ o. o.line < t.line → has_number (moment t.receipt) o.receipt ≡ false) told
  is_new t listed is =
      let k = moment t.receipt in
      All-weaker (Contains told) (λ o. o.line < t.line → has_number k o.receipt ≡ false) (λ o other less. false_from_ne_true (has_number k o.receipt) (λ had.
      let many = listed_twice k told t o listed other less (own_number t.receipt is) had in
      let few = at_most_one (leb 1 k && leb k n) (times k (told_receipts told)) (numbered k) in
      omega arith)) told (All-contains_itself told)

  pub own_numbers : All (HasOwnNumber told n) told
  own_numbers = All-weaker (Contains told) (HasOwnNumber told n) (λ t listed. if_some (accepted t.receipt) _ (λ is. (let within = is_within t listed is in (within.0, within.1, is_new t listed is)))) told (All-contains_itself told)

  all_within : All (Within n) (told_receipts told)
  all_within = All-map (Within n) (λ (t : Told). t.receipt) told (All-weaker (Contains told) (λ t. Within n t.receipt) (λ t listed. if_some (accepted t.receipt) _ (is_within t listed)) told (All-contains_itself told))

  pub accepted_is : accepted_in (told_receipts told) ≡ n
  accepted_is = sym (total_is (told_receipts told) n all_within) ∙ total_of_ones (told_receipts told) n (λ k above within. one_within n k (times k (told_receipts told)) above within (numbered k))

pub count_told : (told : List Told) → accepted_count told ≡ accepted_in (told_receipts told)
count_told [] = refl
count_told (t ∷ told) =
    let rest = count_told told in
    let front = sum_by-cons (λ (t : Told). cond (is_some (accepted t.receipt)) 1 0) t told in
    let back = sum_by-cons (λ (r : Receipt). cond (is_some (accepted r)) 1 0) t.receipt (told_receipts told) in
    omega arith

-- ---- history

fits_at : (s : State) (history : List Update) (k : ℕ) (u : Update) → IsHistory s history → slice_get history k ≡ Some u → Fits u (state_at s history k)
fits_at s [] k u is at = absurd cc
fits_at s (x ∷ history) zero u is at = (let same : x ≡ u = cc in subst (λ (v : Update). Fits v s) same is.0)
fits_at s (x ∷ history) (suc k) u is at = fits_at (after x s) history k u is.1 at

in_turn : (a : Option Update) (m k : ℕ) (start : State) (history : List Update) (R : State → Type 0) → IsHistory start history → (is_some a && eqb m (k + 1)) ≡ true → IfSome a (λ u. (0 < m) × (slice_get history (m - 1) ≡ Some u)) → R (state_at start history (elim a [ None ↦ m | Some u ↦ m - 1 ])) → IfSome a (λ u. Fits u (state_at start history k)) × R (state_at start history k)
in_turn None m k start history R is has at right = absurd cc
in_turn (Some u) m k start history R is has at right =
    let same = eqb-true m (k + 1) has in
    let here : m - 1 ≡ k = omega arith in
    (fits_at start history k u is (ap (slice_get history) (sym here) ∙ at.1), subst (λ (j : ℕ). R (state_at start history j)) here right)

-- ---- all of it

holds_rounds : (start : State) (history : List Update) (nodes callers done : ℕ) (rounds : List (List (List Receipt))) → RoundsHold start history nodes callers done rounds → RoundsEach (HoldsIn start history nodes) callers done rounds × RoundsEach InOrderAt callers done rounds
holds_rounds start history nodes callers done [] hold = (tt, tt)
holds_rounds start history nodes callers done (round ∷ rounds) hold =
    let rest = holds_rounds start history nodes (callers + length round) (done_after done round) rounds hold.1 in
    let bounds : Bounds = record { before = done; after = done_after done round; callers = callers + length round } in
    let Hold : List Receipt → Type 0 = λ rs. AllHold start history nodes (callers + length round) done rs × AreInOrder done rs in (
      (All-weaker Hold (EachFrom (HoldsIn start history nodes bounds) 0) (λ rs both. (holds_each start history nodes bounds 0 done rs (omega arith)).1 both.0) round hold.0, rest.0),
      (All-weaker Hold (EachFrom (InOrderAt bounds) 0) (λ rs both. (order_each bounds 0 rs).1 (order_from_zero done rs both.1)) round hold.0, rest.1),
    )

module _ (script : ScriptData) (journal : JournalData) (lawful : IsLawfulJournal script journal) where
  abbrev account : AccountData
  account = account_of script journal

  abbrev receipts : List Receipt
  receipts = in_one (thread_receipts script.images journal)

  same : told_receipts account.told ≡ receipts
  same = rounds_add script.images 1 0 (record { told = []; line = 1; seen = 0 }) journal.rounds

  numbered : AreNumbered journal.updates (told_receipts account.told)
  numbered = subst (AreNumbered journal.updates) (sym same) lawful.numbered

  same_history : history_of receipts journal.updates ≡ told_history account
  same_history = ap (λ (rs : List Receipt). history_of rs journal.updates) (sym same)

  is_history : IsHistory account.start (told_history account)
  is_history = subst (IsHistory (start_of script)) same_history lawful.history

  sides : RoundsEach (HoldsIn (start_of script) (told_history account) script.nodes) 1 0 (thread_receipts script.images journal) × RoundsEach InOrderAt 1 0 (thread_receipts script.images journal)
  sides = holds_rounds (start_of script) (told_history account) script.nodes 1 0 (thread_receipts script.images journal) (subst (λ (h : List Update). RoundsHold (start_of script) h script.nodes 1 0 (thread_receipts script.images journal)) same_history lawful.receipts)

  hold : All (HoldsAsTold account) account.told
  hold = (rounds_each (HoldsIn (start_of script) (told_history account) script.nodes) script.images 1 0 (record { told = []; line = 1; seen = 0 }) journal.rounds).1 (All-nil (HoldsAsTold account), sides.0)

  pub flawless : IsFlawless account
  flawless Number = own_numbers account.told journal.updates numbered
  flawless Count = count_told account.told ∙ accepted_is account.told journal.updates numbered
  flawless History = λ k less. All-weaker (HoldsAsTold account) (FitsInTurn (state_at account.start (told_history account) k) (k + 1)) (λ t holds has. in_turn (accepted t.receipt) (moment t.receipt) k account.start (told_history account) (λ s. IsRight s t.receipt) is_history has holds.numbered holds.right) account.told hold
  flawless Answer = hold
  flawless Order = (rounds_each InOrderAt script.images 1 0 (record { told = []; line = 1; seen = 0 }) journal.rounds).1 (All-nil ComesInOrder, sides.1)
  flawless Round = (rounds_each InRound script.images 1 0 (record { told = []; line = 1; seen = 0 }) journal.rounds).1 (All-nil ComesInRound, (rounds_between 1 0 (thread_receipts script.images journal)).1 lawful.rounds)

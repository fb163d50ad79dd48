-- Numbers that stand once each: counted from both sides.
use Rattle.std.proofs.Common.{◌≡◌, ℕ, ◌+◌, ◌<◌, ◌≤◌, zero, suc, List, [], ◌∷◌, ◌++◌, Option, Some, None, IfSome, Bool, true, false, cond, ◌&&◌, eqb, All, inl, inr, refl, subst, count_by, arith}
use Rattle.std.specs.Option.{is_some}
use Rattle.std.proofs.lemmas.Bool.{cases_lt, eqb-true, eqb-false}
use Rattle.std.proofs.lemmas.List.Sums.{sum_by-append, sum_by-cons}
use Rattle.std.proofs.lemmas.List.Elements.{All-head, All-tail}
use Rattle.reg_model.specs.Receipt.{moment, accepted}
use Rattle.reg_model.specs.Numbers.{has_number}
use Rattle.reg_model.specs.declared.answer.Update.{Update}
use Rattle.reg_model.specs.declared.answer.Receipt.{Receipt}

abbrev pub times : ℕ → List Receipt → ℕ
times k receipts = count_by (has_number k) receipts

abbrev pub accepted_in : List Receipt → ℕ
accepted_in receipts = count_by (λ r. is_some (accepted r)) receipts

-- an accepted update has a number from 1 to n
abbrev pub Within : ℕ → Receipt → Type 0
Within n r = IfSome (accepted r) (λ u. (0 < moment r) × (moment r ≤ n))

-- how often the numbers from 1 to n stand
abbrev pub total : List Receipt → ℕ → ℕ
total receipts zero = 0
total receipts (suc n) = total receipts n + times (suc n) receipts

pub times_cons : (k : ℕ) (r : Receipt) (rs : List Receipt) → times k (r ∷ rs) ≡ cond (has_number k r) 1 0 + times k rs
times_cons k r rs = sum_by-cons (λ (r : Receipt). cond (has_number k r) 1 0) r rs

pub times_append : (k : ℕ) (xs ys : List Receipt) → times k (xs ++ ys) ≡ times k xs + times k ys
times_append k xs ys = sum_by-append (λ (r : Receipt). cond (has_number k r) 1 0) xs ys

pub accepted_append : (xs ys : List Receipt) → accepted_in (xs ++ ys) ≡ accepted_in xs + accepted_in ys
accepted_append xs ys = sum_by-append (λ (r : Receipt). cond (is_some (accepted r)) 1 0) xs ys

-- one receipt's number stands once among those from 1 to n, where it is within
abbrev alone : Bool → ℕ → ℕ → ℕ
alone a m zero = 0
alone a m (suc n) = alone a m n + cond (a && eqb m (suc n)) 1 0

alone_past : (m n : ℕ) → n < m → alone true m n ≡ 0
alone_past m zero past = refl
alone_past m (suc n) past =
    let rest = alone_past m n (omega arith) in
    elim (eqb m (suc n)) as (λ b. eqb m (suc n) ≡ b → alone true m n + cond b 1 0 ≡ 0) [
      | true ↦ (λ is. absurd (let same = eqb-true m (suc n) is in omega arith))
      | false ↦ (λ _. omega arith)
    ] refl

alone_none : (m n : ℕ) → alone false m n ≡ 0
alone_none m zero = refl
alone_none m (suc n) = (let rest = alone_none m n in omega arith)

alone_once : (m n : ℕ) → 0 < m → m ≤ n → alone true m n ≡ 1
alone_once m zero above within = absurd (omega arith)
alone_once m (suc n) above within = elim (eqb m (suc n)) as (λ b. eqb m (suc n) ≡ b → alone true m n + cond b 1 0 ≡ 1) [
  | true ↦ (λ here. let last = eqb-true m (suc n) here in let rest : alone true m n ≡ 0 = alone_past m n (omega arith) in omega arith)
  | false ↦ (λ other. let apart = eqb-false m (suc n) other in let rest : alone true m n ≡ 1 = alone_once m n above (omega arith) in omega arith)
] refl

alone_within : (a : Option Update) (m n : ℕ) → IfSome a (λ u. (0 < m) × (m ≤ n)) → alone (is_some a) m n ≡ cond (is_some a) 1 0
alone_within None m n within = alone_none m n
alone_within (Some u) m n within = alone_once m n within.0 within.1

total_cons : (r : Receipt) (rs : List Receipt) (n : ℕ) → total (r ∷ rs) n ≡ alone (is_some (accepted r)) (moment r) n + total rs n
total_cons r rs zero = refl
total_cons r rs (suc n) = (let rest = total_cons r rs n in let here = times_cons (suc n) r rs in omega arith)

total_nil : (n : ℕ) → total [] n ≡ 0
total_nil zero = refl
total_nil (suc n) = (let rest = total_nil n in omega arith)

-- where all are within, so many were accepted
pub total_is : (rs : List Receipt) (n : ℕ) → All (Within n) rs → total rs n ≡ accepted_in rs
total_is [] n all = total_nil n
total_is (r ∷ rs) n all =
    let rest = total_is rs n (All-tail (Within n) r rs all) in
    let here = alone_within (accepted r) (moment r) n (All-head (Within n) r rs all) in
    let front = total_cons r rs n in
    let whole = sum_by-cons (λ (r : Receipt). cond (is_some (accepted r)) 1 0) r rs in
    omega arith

pub total_le : (rs : List Receipt) (n : ℕ) → ((k : ℕ) → times k rs ≤ 1) → total rs n ≤ n
total_le rs zero once = omega arith
total_le rs (suc n) once = (let rest = total_le rs n once in let here = once (suc n) in omega arith)

-- where no number stands twice, and n stand from 1 to n, each does once
pub each_once : (rs : List Receipt) (n : ℕ) → ((k : ℕ) → times k rs ≤ 1) → total rs n ≡ n → (k : ℕ) → 0 < k → k ≤ n → times k rs ≡ 1
each_once rs zero once all k above within = absurd (omega arith)
each_once rs (suc n) once all k above within =
    let low = total_le rs n once in
    let last = once (suc n) in
    elim (cases_lt n k) [
      | inl past ↦ (let is : suc n ≡ k = omega arith in subst (λ (j : ℕ). times j rs ≡ 1) is (omega arith))
      | inr before ↦ each_once rs n once (omega arith) k above before
    ]

pub total_of_ones : (rs : List Receipt) (n : ℕ) → ((k : ℕ) → 0 < k → k ≤ n → times k rs ≡ 1) → total rs n ≡ n
total_of_ones rs zero ones = refl
total_of_ones rs (suc n) ones = (let rest = total_of_ones rs n (λ k above within. ones k above (omega arith)) in let here = ones (suc n) (omega arith) (omega arith) in omega arith)

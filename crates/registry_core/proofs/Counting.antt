-- How many updates were accepted, by their numbers.
use Rattle.std.proofs.Common.{◌≡◌, ℕ, zero, suc, ◌+◌, ◌<◌, ◌≤◌, List, [], ◌∷◌, ◌++◌, length, map, sym, refl, ap, ◌∙◌, arith, Bool, ◌&&◌, ◌==◌, is_some, Option, Some, None, eq-eqb, ne_eqb, add-zero, if◌then◌else◌}
use Rattle.std.proofs.lemmas.Bool.{le-leb, lt-leb}
use native.Mathlib.Decide.{ℕ_discrete}
use Rattle.std.specs.List.{AllByRecursion, flat_map, count_by}
use Rattle.std.proofs.lemmas.List.Sums.{sum_by-append, sum_by-cons}
use Rattle.reg_model.specs.Chain.{made_count}
use Rattle.reg_model.specs.Numbers.{AreNumbered, has_number}
use Rattle.reg_model.specs.Receipt.{accepted, moment}
use Rattle.reg_model.specs.declared.answer.Receipt.{Receipt}
use Rattle.reg_model.specs.declared.answer.Update.{Update}
use Rattle.word_rule.specs.Callers.{IsWhole, dones, dones_of_all, number_of}
use Rattle.word_rule.specs.declared.log.Log.{Log}
use Rattle.word_rule.specs.declared.log.ReceiptList.{ReceiptList}
use Rattle.word_rule.specs.declared.log.Receipts.{Receipts}
use Rattle.registry_core.specs.Rounds.{all_receipts, joined_lists}

abbrev once : Bool → ℕ
once b = if b then 1 else 0

-- a count of two lists, and of one more
pub count_both : (p : Receipt → Bool) (xs ys : List Receipt) → count_by p (xs ++ ys) ≡ count_by p xs + count_by p ys
count_both p xs ys = sum_by-append (λ r. once (p r)) xs ys

count_first : (p : Receipt → Bool) (x : Receipt) (xs : List Receipt) → count_by p (x ∷ xs) ≡ once (p x) + count_by p xs
count_first p x xs = sum_by-cons (λ r. once (p r)) x xs

-- the numbers in lists are those in all of them together
in_all : (n : ℕ) (lists : List ReceiptList) → count_by (has_number n) (flat_map (λ receipts. receipts) (map (λ receipts. receipts.list) lists)) ≡ dones_of_all n lists
in_all n [] = refl
in_all n (rs ∷ lists) =
    count_both (has_number n) rs.list (flat_map (λ receipts. receipts) (map (λ receipts. receipts.list) lists))
    ∙ (ap (λ k. count_by (has_number n) rs.list + k) (in_all n lists) ∙ sym (sum_by-cons (λ (receipts : ReceiptList). count_by (has_number n) receipts.list) rs lists))

in_log : (n : ℕ) (r : Receipts) → count_by (has_number n) (all_receipts r) ≡ dones n r
in_log n r = count_both (has_number n) r.own (flat_map (λ receipts. receipts) (joined_lists r)) ∙ ap (λ k. count_by (has_number n) r.own + k) (in_all n r.joined)

pub whole_numbered : (v : Log) → IsWhole v → AreNumbered (length v.past) (all_receipts v.receipts)
whole_numbered v w n = in_log n v.receipts ∙ w.numbers n

-- ---- adding up over the numbers below a bound

abbrev up_to : ℕ → (ℕ → ℕ) → ℕ
up_to zero f = 0
up_to (suc n) f = up_to n f + f n

up_to_zero : (n : ℕ) → up_to n (λ k. 0) ≡ 0
up_to_zero zero = refl
up_to_zero (suc n) = let r = up_to_zero n in omega (arith, r)

up_to_same : (n : ℕ) (f g : ℕ → ℕ) → ((k : ℕ) → f k ≡ g k) → up_to n f ≡ up_to n g
up_to_same zero f g same = refl
up_to_same (suc n) f g same = let r = up_to_same n f g same in let s = same n in omega (arith, r, s)

up_to_plus : (n : ℕ) (f g : ℕ → ℕ) → up_to n (λ k. f k + g k) ≡ up_to n f + up_to n g
up_to_plus zero f g = refl
up_to_plus (suc n) f g = let r = up_to_plus n f g in omega (arith, r)

-- one number counts once, where it is below the bound
up_to_past : (n m : ℕ) → n ≤ m → up_to n (λ k. once (m == k)) ≡ 0
up_to_past zero m h = refl
up_to_past (suc n) m h =
    let r = up_to_past n m (omega (arith, h)) in let e : once (m == n) ≡ 0 = ap once (ne_eqb m n (λ e. omega (arith, e, h))) in omega (arith, r, e)

up_to_one : (n m : ℕ) → m < n → up_to n (λ k. once (m == k)) ≡ 1
up_to_one zero m h = absurd (omega (arith, h))
up_to_one (suc n) m h = go (ℕ_discrete m n) (up_to_one n m)
  where
    go : Dec (m ≡ n) → (m < n → up_to n (λ k. once (m == k)) ≡ 1) → up_to n (λ k. once (m == k)) + once (m == n) ≡ 1
    go (yes e) rest = let r = up_to_past n m (omega (arith, e)) in let s : once (m == n) ≡ 1 = ap once (eq-eqb m n e) in omega (arith, r, s)
    go (no ne) rest = let s : once (m == n) ≡ 0 = ap once (ne_eqb m n ne) in let r = rest (omega (arith, h, ne)) in omega (arith, r, s)

-- an accepted update has one of them
up_to_receipt : (n m : ℕ) (o : Option Update) → m < n → up_to n (λ k. once (is_some o && (m == k))) ≡ once (is_some o)
up_to_receipt n m None h = up_to_zero n
up_to_receipt n m (Some u) h = up_to_one n m h

counts_up : (n : ℕ) (rs : List Receipt) → AllByRecursion (λ r. moment r < n) rs → up_to n (λ k. count_by (has_number k) rs) ≡ made_count rs
counts_up n [] h = up_to_zero n
counts_up n (r ∷ rs) h =
    up_to_same n (λ k. count_by (has_number k) (r ∷ rs)) (λ k. once (has_number k r) + count_by (has_number k) rs) (λ k. count_first (has_number k) r rs)
    ∙ (up_to_plus n (λ k. once (has_number k r)) (λ k. count_by (has_number k) rs)
    ∙ (ap (λ k. k + up_to n (λ k. count_by (has_number k) rs)) (up_to_receipt n (moment r) (accepted r) h.0)
    ∙ (ap (λ k. once (is_some (accepted r)) + k) (counts_up n rs h.1)
    ∙ sym (count_first (λ r. is_some (accepted r)) r rs))))

-- all moments are at most their sum
abbrev moments : List Receipt → ℕ
moments [] = 0
moments (r ∷ rs) = moment r + moments rs

all_below : (n : ℕ) (rs : List Receipt) → moments rs < n → AllByRecursion (λ r. moment r < n) rs
all_below n [] h = tt
all_below n (r ∷ rs) h = (omega (arith, h), all_below n rs (omega (arith, h)))

-- the numbers from 1 to a length, added up over more than that
numbers_to : (len n : ℕ) → n ≤ len → up_to (suc n) (number_of len) ≡ n
numbers_to len zero h = refl
numbers_to len (suc n) h =
    let r = numbers_to len n (omega (arith, h)) in
    let s : number_of len (suc n) ≡ 1 = rw (le-leb 1 (suc n) (omega arith), le-leb (suc n) len h) refl in omega (arith, r, s)

numbers_past : (len d : ℕ) → up_to (suc (len + d)) (number_of len) ≡ len
numbers_past len zero = ap (λ n. up_to (suc n) (number_of len)) (add-zero len) ∙ numbers_to len len (omega arith)
numbers_past len (suc d) =
    let r = numbers_past len d in
    let s : number_of len (suc (len + d)) ≡ 0 = rw (le-leb 1 (suc (len + d)) (omega arith), lt-leb (suc (len + d)) len (omega arith)) refl in
    let t : up_to (suc (suc (len + d))) (number_of len) ≡ len = omega (arith, r, s) in
    let e : len + suc d ≡ suc (len + d) = omega arith in
    ap (λ n. up_to (suc n) (number_of len)) e ∙ t

pub counted : (n : ℕ) (rs : List Receipt) → AreNumbered n rs → made_count rs ≡ n
counted n rs numbered =
    let below = all_below (suc (n + moments rs)) rs (omega arith) in
    sym (counts_up (suc (n + moments rs)) rs below)
    ∙ (up_to_same (suc (n + moments rs)) (λ k. count_by (has_number k) rs) (number_of n) numbered ∙ numbers_past n (moments rs))

pub whole_counted : (v : Log) → IsWhole v → made_count (all_receipts v.receipts) ≡ length v.past
whole_counted v w = counted (length v.past) (all_receipts v.receipts) (whole_numbered v w)

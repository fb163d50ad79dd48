-- A history is read off the numbers of its updates.
use Rattle.std.proofs.Common.{◌≡◌, ℕ, ◌+◌, ◌-◌, ◌<◌, ◌≤◌, zero, suc, List, [], ◌∷◌, ◌++◌, length, take, Bool, true, false, cond, ◌&&◌, eqb, leb, Option, Some, None, IfSome, refl, sym, ◌∙◌, ap, count_by, arith}
use Rattle.std.specs.List.{find, slice_get, AllByRecursion}
use Rattle.std.specs.Option.{is_some, option_and_then, option_to_list}
use Rattle.std.proofs.lemmas.Bool.{eqb-true}
use Rattle.std.proofs.lemmas.Bool.Decides.{nat_tests}
use Rattle.std.proofs.lemmas.List.{take_all}
use Rattle.std.proofs.lemmas.List.Sums.{sum_by-cons}
use Rattle.reg_model.specs.Receipt.{moment, accepted, IsAtNumber}
use Rattle.reg_model.specs.Numbers.{has_number, AreNumbered, history_of}
use Rattle.reg_model.specs.declared.answer.Update.{Update}
use Rattle.reg_model.specs.declared.answer.Receipt.{Receipt}

-- the first receipt with the number k + 1 has the history's update of that number
found_at : (history : List Update) (k m : ℕ) (a : Option Update) (r : Receipt) (found : Option Receipt) (b : Bool) → accepted r ≡ a → IfSome a (λ u. (0 < m) × (slice_get history (m - 1) ≡ Some u)) → (is_some a && eqb m (suc k)) ≡ b → (b ≡ false → option_and_then accepted found ≡ slice_get history k) → option_and_then accepted (cond b (Some r) found) ≡ slice_get history k
found_at history k m a r found false is at test later = later refl
found_at history k m None r found true is at test later = cc
found_at history k m (Some u) r found true is at test later =
    let same : m ≡ suc k = eqb-true m (suc k) test in
    let place : k ≡ m - 1 = omega arith in
    rw place (is ∙ sym at.1)

none_before : (b : Bool) (n : ℕ) → b ≡ false → cond b 1 0 + n ≡ 1 → n ≡ 1
none_before false n is count = omega arith
none_before true n is count = cc

numbered_get : (history : List Update) (receipts : List Receipt) (k : ℕ) → AllByRecursion (IsAtNumber history) receipts → count_by (has_number (suc k)) receipts ≡ 1 → option_and_then accepted (find (has_number (suc k)) receipts) ≡ slice_get history k
numbered_get history [] k at once = cc
numbered_get history (r ∷ receipts) k at once =
    let count = sym (sum_by-cons (λ (r : Receipt). cond (has_number (suc k) r) 1 0) r receipts) ∙ once in
    found_at history k (moment r) (accepted r) r (find (has_number (suc k)) receipts) (has_number (suc k) r) refl at.0 refl
    (λ other. numbered_get history receipts k at.1 (none_before (has_number (suc k) r) (count_by (has_number (suc k)) receipts) other count))

take_get : (history : List Update) (n : ℕ) → take n history ++ option_to_list (slice_get history n) ≡ take (suc n) history
take_get [] zero = refl
take_get [] (suc n) = refl
take_get (u ∷ history) zero = refl
take_get (u ∷ history) (suc n) = ap (λ front. u ∷ front) (take_get history n)

read_off : (history : List Update) (receipts : List Receipt) → ((k : ℕ) → k < length history → option_and_then accepted (find (has_number (suc k)) receipts) ≡ slice_get history k) → (n : ℕ) → n ≤ length history → history_of receipts n ≡ take n history
read_off history receipts at zero within = refl
read_off history receipts at (suc n) within =
    ap (λ front. front ++ option_to_list (option_and_then accepted (find (has_number (suc n)) receipts))) (read_off history receipts at n (omega arith))
    ∙ ap (λ last. take n history ++ option_to_list last) (at n (omega arith))
    ∙ take_get history n

once_within : (n k c : ℕ) → k < n → c ≡ cond (leb 1 (suc k) && leb (suc k) n) 1 0 → c ≡ 1
once_within n k c within is = grind (arith, nat_tests)

-- Where each accepted update stands under its number, and each number on one receipt, the numbers tell the history.
pub history_of_is : (history : List Update) (receipts : List Receipt) → AllByRecursion (IsAtNumber history) receipts → AreNumbered (length history) receipts → history_of receipts (length history) ≡ history
history_of_is history receipts at numbered =
    read_off history receipts (λ k within. numbered_get history receipts k at (once_within (length history) k _ within (numbered (suc k)))) (length history) (omega arith)
    ∙ take_all (length history) history (omega arith)

-- Words of one to three digits.
use Rattle.std.proofs.Common.{◌≡◌, ◌∙◌, ℕ, ◌-◌, ◌^◌, List, [], ◌∷◌, length, All, Bool, true, false, nat_eq, nat_lt, nat_le, refl, sym, ap, arith, lt-ltb, le-leb, le-ltb, true≢false}
use Rattle.std.specs.Char.{digit_value}
use Rattle.std.specs.List.{list_all}
use Rattle.std.specs.Str.Parse.{digits_value, without_leading_plus}
use Rattle.std.proofs.lemmas.Bool.{ne_eqb, eqb-true}
use Rattle.std.proofs.lemmas.List.Elements.{All-head, All-tail}
use Rattle.clap.specs.ValueTests.{is_numeral, is_unsigned_in}
use Rattle.command_line.specs.CommandLine.{IsDecimalDigit, IsCount}

-- what holds of each of the ten digits holds of every digit
at : (P : ℕ → Type 0) (b n : ℕ) → nat_eq n n ≡ true → P n → ((b ≡ n → ⊥) → P b) → P b
at P b n self p other = go (nat_eq b n) refl
  where
    go : (t : Bool) → nat_eq b n ≡ t → P b
    go true e = rw (eqb-true b n e) p
    go false e = other (λ same. let no = rw same at e in true≢false (sym self ∙ no))

pub of_each : (P : ℕ → Type 0) → P 48 → P 49 → P 50 → P 51 → P 52 → P 53 → P 54 → P 55 → P 56 → P 57 → (b : ℕ) → IsDecimalDigit b → P b
of_each P p0 p1 p2 p3 p4 p5 p6 p7 p8 p9 b digit =
    at P b 48 refl p0 (λ n0. at P b 49 refl p1 (λ n1. at P b 50 refl p2 (λ n2. at P b 51 refl p3 (λ n3. at P b 52 refl p4 (λ n4.
    at P b 53 refl p5 (λ n5. at P b 54 refl p6 (λ n6. at P b 55 refl p7 (λ n7. at P b 56 refl p8 (λ n8. at P b 57 refl p9 (λ n9. absurd (omega (arith, digit.0, digit.1))))))))))))

pub digit_is : (b : ℕ) → IsDecimalDigit b → digit_value b ≡ b - 48
digit_is b digit = rw (le-ltb b 48 digit.0, lt-ltb b 58 (omega (arith, digit.1))) refl

digits_count : (word : List ℕ) → All IsDecimalDigit word → list_all (λ d. nat_lt (digit_value d) 10) word ≡ true
digits_count [] all = refl
digits_count (b ∷ bs) all =
    let first = All-head IsDecimalDigit b bs all in
    let small : nat_lt (digit_value b) 10 ≡ true = lt-ltb _ _ (omega (arith, digit_is b first, first.1)) in
    rw (small, digits_count bs (All-tail IsDecimalDigit b bs all)) refl

unsigned_from : (b : ℕ) (bs : List ℕ) (count : ℕ) → IsCount (b ∷ bs) count → is_unsigned_in 1 500 (b ∷ bs) ≡ true
unsigned_from b bs count is =
    let first = All-head IsDecimalDigit b bs is.digits in
    let plain : without_leading_plus (b ∷ bs) ≡ b ∷ bs = rw (ne_eqb b 43 (λ e. absurd (omega (arith, first.0)))) refl in
    let number : digits_value 10 (without_leading_plus (b ∷ bs)) ≡ count = ap (digits_value 10) plain ∙ is.number in
    let long : nat_lt 0 (length (b ∷ bs)) ≡ true = lt-ltb 0 (length (b ∷ bs)) (omega (arith, is.size.0)) in
    let counted = digits_count (b ∷ bs) is.digits in
    let numeral : is_numeral (without_leading_plus (b ∷ bs)) ≡ true = ap is_numeral plain ∙ rw (long, counted) refl in
    let above : nat_le 1 count ≡ true = le-leb 1 count is.range.0 in
    let below : nat_le count 500 ≡ true = le-leb count 500 is.range.1 in
    let small : nat_lt count (2 ^ 64) ≡ true = lt-ltb count (2 ^ 64) (omega (arith, is.range.1)) in
    rw (numeral, number, small, above, below) refl

pub unsigned : (word : List ℕ) (count : ℕ) → IsCount word count → is_unsigned_in 1 500 word ≡ true
unsigned [] count is = absurd (omega (arith, is.size.0))
unsigned (b ∷ bs) count is = unsigned_from b bs count is

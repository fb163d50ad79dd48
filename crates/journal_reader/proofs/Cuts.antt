-- Where texts are cut: at a space, at a line feed, after a word.
use Rattle.std.proofs.Common.{◌≡◌, ◌≢◌, ℕ, zero, suc, ◌+◌, ◌-◌, ◌<◌, ◌≤◌, Bool, true, false, cond, eqb, List, [], ◌∷◌, ◌++◌, length, get_or, take, drop, Option, Some, None, MatchOption, refl, sym, ap, ◌∙◌, eq-eqb, ne_eqb, arith}
use Rattle.std.specs.List.{count_by}
use Rattle.std.proofs.lemmas.List.Recursion.{is_count_by}
use Rattle.std.proofs.lemmas.Bool.{cond-true, cond-false}
use denote.Ref.{Bor}
use Rattle.script_text.specs.Fields.{pieces, with_first}
use Rattle.script_text.proofs.Pieces.{some_pieces}
use Rattle.journal_reader.specs.FirstNumbers.{before_space, from_space, past_word}
use Rattle.journal_reader.proofs.FirstParts.{past_none, past_some}

pub space_cut : (bytes : List ℕ) (n : ℕ) → n ≤ length bytes → ((k : ℕ) → k < n → get_or bytes k 0 ≢ 32) → (n < length bytes → get_or bytes n 0 ≡ 32) → (take n bytes ≡ before_space bytes) × (drop n bytes ≡ from_space bytes)
space_cut [] zero within before found = (refl, refl)
space_cut [] (suc n) within before found = absurd (omega arith)
space_cut (b ∷ bytes) zero within before found =
    let same : eqb b 32 ≡ true = eq-eqb b 32 (found (omega arith)) in
    (sym (cond-true (eqb b 32) [] (b ∷ before_space bytes) same), sym (cond-true (eqb b 32) (b ∷ bytes) (from_space bytes) same))
space_cut (b ∷ bytes) (suc n) within before found =
    let differs : eqb b 32 ≡ false = ne_eqb b 32 (before 0 (omega arith)) in
    let rest = space_cut bytes n (omega arith) (λ k lt. before (suc k) (omega arith)) (λ lt. found (omega arith)) in (
      ap (λ (x : List ℕ). b ∷ x) rest.0 ∙ sym (cond-false (eqb b 32) [] (b ∷ before_space bytes) differs),
      rest.1 ∙ sym (cond-false (eqb b 32) (b ∷ bytes) (from_space bytes) differs),
    )

pub line_cut : (bytes : List ℕ) (n : ℕ) → n < length bytes → ((k : ℕ) → k < n → get_or bytes k 0 ≢ 10) → get_or bytes n 0 ≡ 10 → pieces 10 bytes ≡ take n bytes ∷ pieces 10 (drop (n + 1) bytes)
line_cut [] n within before found = absurd (omega arith)
line_cut (b ∷ bytes) zero within before found = cond-true (eqb b 10) ([] ∷ pieces 10 bytes) (with_first b (pieces 10 bytes)) (eq-eqb b 10 found)
line_cut (b ∷ bytes) (suc n) within before found =
    let rest = line_cut bytes n (omega arith) (λ k lt. before (suc k) (omega arith)) found in
    let place : suc (n + 1) ≡ suc n + 1 = omega arith in
    let next : drop (n + 1) bytes ≡ drop (suc n + 1) (b ∷ bytes) = ap (λ (k : ℕ). drop k (b ∷ bytes)) place in
    cond-false (eqb b 10) ([] ∷ pieces 10 bytes) (with_first b (pieces 10 bytes)) (ne_eqb b 10 (before 0 (omega arith)))
    ∙ ap (with_first b) rest ∙ ap (λ (x : List ℕ). (b ∷ take n bytes) ∷ pieces 10 x) next

pub no_line_cut : (bytes : List ℕ) (n : ℕ) → n ≡ length bytes → ((k : ℕ) → k < n → get_or bytes k 0 ≢ 10) → pieces 10 bytes ≡ bytes ∷ []
no_line_cut [] n is before = refl
no_line_cut (b ∷ bytes) n is before =
    let rest = no_line_cut bytes (length bytes) refl (λ k lt. before (suc k) (omega arith)) in
    cond-false (eqb b 10) ([] ∷ pieces 10 bytes) (with_first b (pieces 10 bytes)) (ne_eqb b 10 (before 0 (omega arith)))
    ∙ ap (with_first b) rest

abbrev feeds : List ℕ → ℕ
feeds bytes = length (pieces 10 bytes) - 1

feeds_first : (b : ℕ) (bytes : List ℕ) → feeds (b ∷ bytes) ≡ cond (eqb b 10) (1 + feeds bytes) (feeds bytes)
feeds_first b bytes = by (eqb b 10) (some_pieces 10 bytes)
  where
    by : (t : Bool) → ((first : List ℕ) × (others : List (List ℕ)) × (pieces 10 bytes ≡ first ∷ others))
        → length (cond t ([] ∷ pieces 10 bytes) (with_first b (pieces 10 bytes))) - 1 ≡ cond t (1 + (length (pieces 10 bytes) - 1)) (length (pieces 10 bytes) - 1)
    by true some = let same = ap (λ (x : List (List ℕ)). length x) some.2 in omega (arith, same)
    by false some =
        let grown = ap (λ (x : List (List ℕ)). length (with_first b x)) some.2 in
        let same = ap (λ (x : List (List ℕ)). length x) some.2 in
        omega (arith, grown, same)

pub pieces_count : (bytes : List ℕ) → count_by (λ b. eqb b 10) bytes + 1 ≡ length (pieces 10 bytes)
pieces_count bytes =
    let some = some_pieces 10 bytes in
    let same = ap (λ (x : List (List ℕ)). length x) some.2 in
    let counted = is_count_by feeds (λ b. eqb b 10) refl feeds_first bytes in
    omega (arith, same, counted)

pub past_from : (word text : List ℕ) (r : Option (Bor (List ℕ))) → MatchOption r ((rest : List ℕ) → text ≢ word ++ rest) (λ x. text ≡ word ++ x.now) → MatchOption r (past_word word text ≡ None) (λ x. past_word word text ≡ Some x.now)
past_from word text None never = past_none word text never
past_from word text (Some x) is = past_some word text x.now is

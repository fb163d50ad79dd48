-- Pieces of a text.
use Rattle.std.proofs.Common.{◌≡◌, ℕ, zero, suc, ◌<◌, ◌≤◌, ◌≢◌, Bool, true, false, cond, not, eqb, List, [], ◌∷◌, length, get_or, take, drop, Some, None, refl, sym, ap, ◌∙◌, eq-eqb, ne_eqb, arith}
use Rattle.std.proofs.lemmas.Bool.{cond-true, cond-false}
use Rattle.script_text.specs.Fields.{with_first, pieces, pieces_after}

-- one piece is up to the first separator, or all of the bytes
pub pieces_cut : (separator : ℕ) (bytes : List ℕ) (n : ℕ) → n ≤ length bytes → ((k : ℕ) → k < n → get_or bytes k 0 ≢ separator) → (n < length bytes → get_or bytes n 0 ≡ separator)
    → pieces separator bytes ≡ take n bytes ∷ pieces_after separator (drop n bytes)
pieces_cut separator [] zero within before found = refl
pieces_cut separator [] (suc n) within before found = absurd (omega arith)
pieces_cut separator (b ∷ bytes) zero within before found =
    cond-true (eqb b separator) ([] ∷ pieces separator bytes) (with_first b (pieces separator bytes)) (eq-eqb b separator (found (omega arith)))
pieces_cut separator (b ∷ bytes) (suc n) within before found =
    let here = before 0 (omega arith) in
    let rest = pieces_cut separator bytes n (omega arith) (λ k lt. before (suc k) (omega arith)) (λ lt. found (omega arith)) in
    cond-false (eqb b separator) ([] ∷ pieces separator bytes) (with_first b (pieces separator bytes)) (ne_eqb b separator here) ∙ ap (with_first b) rest

pub some_pieces : (separator : ℕ) (bytes : List ℕ) → (first : List ℕ) × (others : List (List ℕ)) × (pieces separator bytes ≡ first ∷ others)
some_pieces separator [] = ([], [], refl)
some_pieces separator (b ∷ bytes) = by (eqb b separator) (some_pieces separator bytes)
  where
    by : (t : Bool) → ((first : List ℕ) × (others : List (List ℕ)) × (pieces separator bytes ≡ first ∷ others))
        → (first : List ℕ) × (others : List (List ℕ)) × (cond t ([] ∷ pieces separator bytes) (with_first b (pieces separator bytes)) ≡ first ∷ others)
    by true p = ([], pieces separator bytes, refl)
    by false p = (b ∷ p.0, p.1, ap (with_first b) p.2)

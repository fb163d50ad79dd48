-- What functions are at the numbers below a bound, added up: how many numbers a list has there.
use Rattle.std.proofs.Common.{◌≡◌, ℕ, zero, suc, ◌+◌, ◌<◌, ◌≤◌, List, [], ◌∷◌, length, refl, arith, ◌==◌, eq-eqb, ne_eqb, lt_of_not-le}
use native.Mathlib.Decide.{ℕ_discrete, dec_le}
use Rattle.tree_laws.specs.Numbers.{times, once}

-- what a function is at the numbers below n, added up
abbrev pub tally : (ℕ → ℕ) → ℕ → ℕ
tally f zero = 0
tally f (suc n) = f n + tally f n

pub tally_plus : (f g : ℕ → ℕ) (n : ℕ) → tally (λ k. f k + g k) n ≡ tally f n + tally g n
tally_plus f g zero = refl
tally_plus f g (suc n) = let rest = tally_plus f g n in omega (arith, rest)

pub tally_zero : (n : ℕ) → tally (λ k. 0) n ≡ 0
tally_zero zero = refl
tally_zero (suc n) = let rest = tally_zero n in omega (arith, rest)

-- a number below n is there once, and one from n on not at all
tally_once : (x n : ℕ) → (tally (λ k. once (k == x)) n ≤ 1) × (n ≤ x → tally (λ k. once (k == x)) n ≡ 0) × (x < n → tally (λ k. once (k == x)) n ≡ 1)
tally_once x zero = (omega arith, (λ _. refl), λ less. absurd (omega (arith, less)))
tally_once x (suc n) = go (ℕ_discrete n x) (tally_once x n)
  where
    go : Dec (n ≡ x) → (tally (λ k. once (k == x)) n ≤ 1) × (n ≤ x → tally (λ k. once (k == x)) n ≡ 0) × (x < n → tally (λ k. once (k == x)) n ≡ 1)
        → (tally (λ k. once (k == x)) (suc n) ≤ 1) × (suc n ≤ x → tally (λ k. once (k == x)) (suc n) ≡ 0) × (x < suc n → tally (λ k. once (k == x)) (suc n) ≡ 1)
    go (yes e) rest =
        let one : once (n == x) ≡ 1 = rw (eq-eqb n x e) refl in let nothing = rest.1 (omega (arith, e)) in
        (omega (arith, one, nothing), (λ less. absurd (omega (arith, less, e))), λ _. omega (arith, one, nothing))
    go (no ne) rest =
        let no_one : once (n == x) ≡ 0 = rw (ne_eqb n x ne) refl in let a = rest.0 in
        (omega (arith, no_one, a), (λ less. (let b = rest.1 (omega (arith, less)) in omega (arith, no_one, b))), λ less. (let b = rest.2 (omega (arith, less, ne)) in omega (arith, no_one, b)))

-- the items of a list below n are at most all
pub tally_times : (xs : List ℕ) (n : ℕ) → tally (λ k. times k xs) n ≤ length xs
tally_times [] n = let e = tally_zero n in omega (arith, e)
tally_times (x ∷ xs) n = let sum = tally_plus (λ k. once (k == x)) (λ k. times k xs) n in let one = (tally_once x n).0 in let rest = tally_times xs n in omega (arith, sum, one, rest)

-- and are all of them where none is from n on
pub tally_all : (xs : List ℕ) (n : ℕ) → ((k : ℕ) → n ≤ k → times k xs ≡ 0) → length xs ≤ tally (λ k. times k xs) n
tally_all [] n none = omega arith
tally_all (x ∷ xs) n none = below (tally_all xs n (λ k far. let h = none k far in omega (arith, h))) (dec_le n x)
  where
    below : length xs ≤ tally (λ k. times k xs) n → Dec (n ≤ x) → suc (length xs) ≤ tally (λ k. once (k == x) + times k xs) n
    below rest (yes far) = let here : once (x == x) ≡ 1 = rw (eq-eqb x x refl) refl in let not_there = none x far in absurd (omega (arith, here, not_there))
    below rest (no near) =
        let sum = tally_plus (λ k. once (k == x)) (λ k. times k xs) n in
        let one = (tally_once x n).2 (lt_of_not-le near) in omega (arith, sum, one, rest)

-- what is nowhere more than 1 is n at most
pub tally_ones : (f : ℕ → ℕ) (n : ℕ) → ((k : ℕ) → f k ≤ 1) → tally f n ≤ n
tally_ones f zero each = omega arith
tally_ones f (suc n) each = let here = each n in let rest = tally_ones f n each in omega (arith, here, rest)

-- each number below n is in one of both sums
pub tally_covers : (f g : ℕ → ℕ) (n : ℕ) → ((k : ℕ) → k < n → 1 ≤ f k + g k) → n ≤ tally f n + tally g n
tally_covers f g zero each = omega arith
tally_covers f g (suc n) each = let here = each n (omega arith) in let rest = tally_covers f g n (λ k less. each k (omega (arith, less))) in omega (arith, here, rest)

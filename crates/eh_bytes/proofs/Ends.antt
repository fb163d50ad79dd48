-- Where a number or a text ends: at the first byte below a bound.
use Rattle.std.proofs.Common.{◌≡◌, ℕ, zero, suc, ◌+◌, ◌<◌, ◌≤◌, Bool, true, false, cond, List, [], ◌∷◌, length, drop, get_or, Option, Some, None, nat_lt, nat_eq, refl, ap, arith, add-one, drop-cons}
use Rattle.std.specs.Option.{option_map}
use Rattle.std.proofs.lemmas.Bool.Decides.{nat_tests}
use Rattle.eh_bytes.specs.CursorData.{first_below, text_len}
use Rattle.eh_bytes.specs.Leb.{leb_len}

-- a length, counted from i places before
abbrev pub shifted : ℕ → Option ℕ → Option ℕ
shifted i None = None
shifted i (Some n) = Some (n + i)

pub shifted-zero : (o : Option ℕ) → o ≡ shifted 0 o
shifted-zero None = refl
shifted-zero (Some n) = ap (λ (k : ℕ). Some k) (omega arith)

pub shifted-suc : (i : ℕ) (o : Option ℕ) → shifted i (option_map suc o) ≡ shifted (i + 1) o
shifted-suc i None = refl
shifted-suc i (Some n) = ap (λ (k : ℕ). Some k) (omega arith)

pub first_below-here : (n : ℕ) (bs : List ℕ) (i : ℕ) → i < length bs → get_or bs i 0 < n → first_below n (drop i bs) ≡ Some 0
unfolding first_below
first_below-here n bs i lt low = rw (drop-cons bs i 0 lt) (grind (arith, nat_tests))

-- any other byte leads on
pub first_below-later : (n : ℕ) (bs : List ℕ) (i : ℕ) → i < length bs → n ≤ get_or bs i 0 → first_below n (drop i bs) ≡ option_map suc (first_below n (drop (i + 1) bs))
unfolding first_below
first_below-later n bs i lt high = rw (drop-cons bs i 0 lt, add-one) (grind (arith, nat_tests))

pub first_below-none : (n : ℕ) (bs : List ℕ) (i : ℕ) → length bs ≤ i → first_below n (drop i bs) ≡ None
unfolding first_below
first_below-none n [] zero le = refl
first_below-none n [] (suc i) le = refl
first_below-none n (b ∷ bs) zero le = absurd (omega arith)
first_below-none n (b ∷ bs) (suc i) le = first_below-none n bs i (omega arith)

-- a number ends with a byte below 128
pub leb_len-below : (bs : List ℕ) → leb_len bs ≡ option_map suc (first_below 128 bs)
unfolding leb_len first_below
leb_len-below [] = refl
leb_len-below (b ∷ bs) = ends (nat_lt b 128) (leb_len-below bs)
  where
    ends : (low : Bool) → leb_len bs ≡ option_map suc (first_below 128 bs) → cond low (Some 1) (option_map suc (leb_len bs)) ≡ option_map suc (cond low (Some 0) (option_map suc (first_below 128 bs)))
    ends true later = refl
    ends false later = ap (option_map suc) later

-- and a text before a byte below 1
pub text_len-below : (bs : List ℕ) → text_len bs ≡ first_below 1 bs
unfolding text_len first_below
text_len-below [] = refl
text_len-below (b ∷ bs) = let zero : nat_eq b 0 ≡ nat_lt b 1 = grind (arith, nat_tests) in rw (zero, text_len-below bs) refl

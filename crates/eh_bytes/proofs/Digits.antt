-- LEB128 numbers from their places: the digit at a place, and the number of the digits from it on.
use Rattle.std.proofs.Common.{◌≡◌, ℕ, zero, suc, ◌+◌, ◌-◌, ◌*◌, ◌%◌, ◌^◌, ◌<◌, ◌≤◌, ℤ, pos, negsuc, ◌+ℤ◌, ◌-ℤ◌, ◌*ℤ◌, ◌≤ℤ◌, ◌<ℤ◌, true, false, List, [], ◌∷◌, length, take, drop, get_or, Result, Ok, nat_lt, refl, arith, drop-cons, inl, inr, ◌⊎◌}
use Rattle.std.proofs.lemmas.Int.{ints}
use Rattle.std.specs.Int.{w64}
use mir.Val.{SFits, to_z}
use Rattle.std.proofs.lemmas.Bool.{cases_lt, ltb-false, le-ltb, lt-ltb}
use Rattle.std.proofs.lemmas.List.{drop_all, take_all, length-drop}
use Rattle.eh_bytes.specs.declared.fault.ByteFault.{ByteFault}
use Rattle.eh_bytes.specs.CursorData.{CursorData}
use Rattle.eh_bytes.specs.Leb.{leb_len, uleb_value, sleb_value, signed_digit, fits_signed, uleb_of, uleb_at, sleb_of, sleb_at}

-- one digit more, below those from place k on
pub uleb_value-digit : (bs : List ℕ) (k : ℕ) → 0 < k → k ≤ length bs → uleb_value (drop (k - 1) bs) ≡ get_or bs (k - 1) 0 % 128 + 128 * uleb_value (drop k bs)
unfolding uleb_value
uleb_value-digit bs zero some le = absurd (omega arith)
uleb_value-digit bs (suc i) some le =
    let here : i < length bs = omega arith in
    let below : suc i - 1 ≡ i = omega arith in
    rw (below, drop-cons bs i 0 here) refl

pub uleb_value-drop : (bs : List ℕ) (i : ℕ) → uleb_value (drop i bs) ≤ uleb_value bs
unfolding uleb_value
uleb_value-drop bs zero = omega arith
uleb_value-drop [] (suc i) = omega arith
uleb_value-drop (b ∷ bs) (suc i) = omega (arith, uleb_value-drop bs i)

-- the same for signed numbers, whose last digit has the sign
pub sleb_value-digit : (bs : List ℕ) (k : ℕ) → 0 < k → k < length bs → sleb_value (drop (k - 1) bs) ≡ pos (get_or bs (k - 1) 0 % 128) +ℤ pos 128 *ℤ sleb_value (drop k bs)
unfolding sleb_value
sleb_value-digit bs zero some lt = absurd (omega arith)
sleb_value-digit bs (suc i) some lt =
    let here : i < length bs = omega arith in
    let below : suc i - 1 ≡ i = omega arith in
    rw (below, drop-cons bs i 0 here, drop-cons bs (suc i) 0 lt) refl

pub sleb_value-last : (bs : List ℕ) (i : ℕ) → i < length bs → length bs ≤ i + 1 → sleb_value (drop i bs) ≡ signed_digit (get_or bs i 0)
unfolding sleb_value
sleb_value-last bs i lt le =
    let none : drop (suc i) bs ≡ [] = drop_all (suc i) bs (omega arith) in
    rw (drop-cons bs i 0 lt, none) refl

-- a number that fits, and one that does not
pub fits-within : (z : ℤ) → z <ℤ pos (2 ^ 63) → negsuc (2 ^ 63 - 1) ≤ℤ z → fits_signed z ≡ true
fits-within (pos n) high low = lt-ltb _ _ (omega (arith, ints))
fits-within (negsuc n) high low = lt-ltb _ _ (omega (arith, ints))

pub fits-above : (z : ℤ) → pos (2 ^ 63) ≤ℤ z → fits_signed z ≡ false
fits-above (pos n) high = le-ltb _ _ (omega (arith, ints))
fits-above (negsuc n) high = absurd (omega (arith, ints))

pub fits-below : (z : ℤ) → z <ℤ negsuc (2 ^ 63 - 1) → fits_signed z ≡ false
fits-below (pos n) low = absurd (omega (arith, ints))
fits-below (negsuc n) low = le-ltb _ _ (omega (arith, ints))

fits-not : (z : ℤ) → fits_signed z ≡ false → (pos (2 ^ 63) ≤ℤ z) ⊎ (z <ℤ negsuc (2 ^ 63 - 1))
fits-not (pos n) e = let le = ltb-false _ _ e in inl (omega (arith, ints, le))
fits-not (negsuc n) e = let le = ltb-false _ _ e in inr (omega (arith, ints, le))

-- one digit fits
digit-fits : (b : ℕ) → fits_signed (signed_digit b) ≡ true
digit-fits b =
    let small : b % 128 < 128 = omega arith in
    elim (cases_lt (b % 128) 64) [
      | inl lt ↦ rw (lt-ltb (b % 128) 64 lt) (lt-ltb (b % 128) (2 ^ 63) (omega arith))
      | inr ge ↦ rw (le-ltb (b % 128) 64 ge) (fits-within (pos (b % 128) -ℤ pos 128) (omega (arith, ints)) (omega (arith, ints)))
    ]

-- a digit below does not bring a number back
fits-up : (d : ℕ) (z : ℤ) → d < 128 → fits_signed z ≡ false → fits_signed (pos d +ℤ pos 128 *ℤ z) ≡ false
fits-up d z lt e =
    elim (fits-not z e) [
      | inl high ↦ fits-above (pos d +ℤ pos 128 *ℤ z) (omega (arith, ints))
      | inr low ↦ fits-below (pos d +ℤ pos 128 *ℤ z) (omega (arith, ints))
    ]

fits-refused : (z : ℤ) → (SFits w64 z → ⊥) → fits_signed z ≡ false
fits-refused (pos n) h = elim (cases_lt n (2 ^ 63)) [ inl lt ↦ absurd (h (record { sfits = lt })) | inr le ↦ le-ltb _ _ le ]
fits-refused (negsuc n) h = elim (cases_lt n (2 ^ 63)) [ inl lt ↦ absurd (h (record { sfits = lt })) | inr le ↦ le-ltb _ _ le ]

-- where the product with 128 does not fit, no digit below brings it back
pub fits-product : (d : ℕ) (z : ℤ) → d < 128 → (SFits w64 (z *ℤ pos 128) → ⊥) → fits_signed (pos d +ℤ pos 128 *ℤ z) ≡ false
fits-product d z lt h =
    elim (fits-not (z *ℤ pos 128) (fits-refused (z *ℤ pos 128) h)) [
      | inl high ↦ fits-above (pos d +ℤ pos 128 *ℤ z) (omega (arith, ints))
      | inr low ↦ fits-below (pos d +ℤ pos 128 *ℤ z) (omega (arith, ints))
    ]

pub fits-drop : (bs : List ℕ) (i : ℕ) → i < length bs → fits_signed (sleb_value (drop i bs)) ≡ false → fits_signed (sleb_value bs) ≡ false
unfolding sleb_value
fits-drop bs zero lt e = e
fits-drop [] (suc i) lt e = absurd (omega arith)
fits-drop (b ∷ []) (suc i) lt e = absurd (omega arith)
fits-drop (b ∷ c ∷ bs) (suc i) lt e = fits-up (b % 128) (sleb_value (c ∷ bs)) (omega arith) (fits-drop (c ∷ bs) i (omega arith) e)

pub uleb_value-end : (bs : List ℕ) → uleb_value (drop (length bs) bs) ≡ 0
unfolding uleb_value
uleb_value-end bs = let none : drop (length bs) bs ≡ [] = drop_all (length bs) bs (omega arith) in rw none refl

-- a number of one byte
pub uleb_at-byte : (bs : List ℕ) (at : ℕ) → 0 < length bs → get_or bs 0 0 < 128 → uleb_at (record { bytes = bs; at = at }) ≡ Ok (get_or bs 0 0, record { bytes = drop 1 bs; at = at + 1 })
unfolding leb_len uleb_of uleb_value
uleb_at-byte [] at some low = absurd (omega arith)
uleb_at-byte (b ∷ bs) at some low =
    let last : nat_lt b 128 ≡ true = lt-ltb _ _ low in
    let digit : b % 128 + 0 ≡ b = omega arith in
    let fits : nat_lt b (2 ^ 64) ≡ true = lt-ltb _ _ (omega arith) in
    rw (last, digit, fits) refl

-- a number of two bytes
pub uleb_at-two : (bs : List ℕ) (at : ℕ) → 1 < length bs → 128 ≤ get_or bs 0 0 → get_or bs 1 0 < 128 → uleb_at (record { bytes = bs; at = at }) ≡ Ok (get_or bs 0 0 % 128 + 128 * get_or bs 1 0, record { bytes = drop 2 bs; at = at + 2 })
unfolding leb_len uleb_of uleb_value
uleb_at-two [] at some first last = absurd (omega arith)
uleb_at-two (b ∷ []) at some first last = absurd (omega arith)
uleb_at-two (b ∷ c ∷ bs) at some first last =
    let more : nat_lt b 128 ≡ false = le-ltb _ _ first in
    let whole : nat_lt c 128 ≡ true = lt-ltb _ _ last in
    let digit : c % 128 + 0 ≡ c = omega arith in
    let fits : nat_lt (b % 128 + 128 * c) (2 ^ 64) ≡ true = lt-ltb _ _ (omega arith) in
    rw (more, whole, digit, fits) refl

pub sleb_at-byte : (bs : List ℕ) (at : ℕ) → 0 < length bs → get_or bs 0 0 < 128 → sleb_at (record { bytes = bs; at = at }) ≡ Ok (signed_digit (get_or bs 0 0), record { bytes = drop 1 bs; at = at + 1 })
unfolding leb_len sleb_of sleb_value
sleb_at-byte [] at some low = absurd (omega arith)
sleb_at-byte (b ∷ bs) at some low =
    let last : nat_lt b 128 ≡ true = lt-ltb _ _ low in
    rw (last, digit-fits b) refl

-- a cursor that has its end and not its place, after n bytes
pub after-bytes : {V : Type 0} (x : V) (bs : List ℕ) (end n : ℕ) → n ≤ length bs → length bs ≤ end
    → (let made : ℕ → List ℕ → Result (V × CursorData) ByteFault = λ at rest. Ok (x, record { bytes = rest; at = at }) in
    made (end - length bs + n) (drop n bs) ≡ made (end - length (take (length bs - n) (drop n bs))) (take (length bs - n) (drop n bs)))
after-bytes x bs end n le within =
    let behind : take (length bs - n) (drop n bs) ≡ drop n bs = take_all (length bs - n) (drop n bs) (omega (arith, length-drop n bs)) in
    let moved : end - length bs + n ≡ end - length (drop n bs) = omega (arith, length-drop n bs) in
    rw (behind, moved) refl

-- the bits of a signed number of 64 bits
pub fits-cast : (n : ℕ) → n < 2 ^ 64 → fits_signed (to_z w64 n) ≡ true
fits-cast n lt = fits-within (to_z w64 n) (omega (arith, ints)) (omega (arith, ints))

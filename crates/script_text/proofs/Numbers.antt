-- The digits of a number, in lower case and without leading zeros, and the number that such digits are of.
use Rattle.std.proofs.Common.{◌≡◌, ℕ, zero, suc, ◌+◌, ◌-◌, ◌*◌, ◌/◌, ◌%◌, ◌^◌, ◌<◌, ◌≤◌, ◌≢◌, Bool, true, false, cond, ◌&&◌, ltb, List, [], ◌∷◌, ◌++◌, length, get_or, take, Option, Some, None, refl, sym, ap, subst, ◌∙◌, inl, inr, append_assoc, append-nil, ap₂, take_all, length-append, eq-eqb, ne_eqb, lt-ltb, le-ltb, ltb-true, mod-lt, arith}
use Rattle.std.specs.List.{AllByRecursion}
use Rattle.std.specs.Char.{digit_value}
use Rattle.std.specs.Fmt.{decimal, digit_glyph, digits_onto, digits}
use Rattle.std.specs.Str.{bytes_eq}
use Rattle.std.specs.Str.Parse.{digits_value, digits_value_after, AllDigits}
use Rattle.std.proofs.lemmas.Bool.{cases_lt, cases_eq, cond-true, cond-false, and_from}
use Rattle.std.proofs.lemmas.Nat.{div-mul-add, mod-mul-add}
use Rattle.std.proofs.Math.Nat.{div-lt_iff_lt-mul, div-eq_of_lt, pow-le-pow_right, pow-suc, pow-zero, div-add-mod, mul-le-mul_left}
use Rattle.std.proofs.lemmas.Slice.Eq.{bytes_eq-Decides}
use Rattle.std.proofs.lemmas.List.{take_more, length-take-le, get_or-take}
use Rattle.std.proofs.lemmas.Fmt.{digits_is_IsNumeral}
use Rattle.std.proofs.lemmas.Int.Digits.{digits_value-lt, digits_value_more}
use Rattle.script_text.specs.Fields.{number_in, decimal_in, hex_in}
use Rattle.script_text.specs.Digits.{hex}

-- ---- one digit

-- a byte is a digit of the base, in lower case
abbrev pub IsGlyph : ℕ → ℕ → Type 0
IsGlyph base c = (d : ℕ) × (d < base) × (c ≡ digit_glyph false d)

glyph_low : (d : ℕ) → d < 10 → digit_glyph false d ≡ 48 + d
glyph_low d lt = cond-true (ltb d 10) (48 + d) (87 + d) (lt-ltb d 10 lt)

glyph_high : (d : ℕ) → 10 ≤ d → digit_glyph false d ≡ 87 + d
glyph_high d le = cond-false (ltb d 10) (48 + d) (87 + d) (le-ltb d 10 le)

value_low : (c d : ℕ) → c ≡ 48 + d → d < 10 → digit_value c ≡ d
value_low c d e lt =
    let a : ltb c 48 ≡ false = le-ltb _ _ (omega arith) in
    let b : ltb c 58 ≡ true = lt-ltb _ _ (omega arith) in
    rw (a, b) (omega arith)

value_high : (c d : ℕ) → c ≡ 87 + d → 10 ≤ d → d < 16 → digit_value c ≡ d
value_high c d e ge lt =
    let a : ltb c 48 ≡ false = le-ltb _ _ (omega arith) in
    let b : ltb c 58 ≡ false = le-ltb _ _ (omega arith) in
    let f : ltb c 65 ≡ false = le-ltb _ _ (omega arith) in
    let g : ltb c 91 ≡ false = le-ltb _ _ (omega arith) in
    let h : ltb c 97 ≡ false = le-ltb _ _ (omega arith) in
    let i : ltb c 123 ≡ true = lt-ltb _ _ (omega arith) in
    rw (a, b, f, g, h, i) (omega arith)

pub glyph_value : (d : ℕ) → d < 16 → digit_value (digit_glyph false d) ≡ d
glyph_value d lt =
    elim (cases_lt d 10) [
      | inl low ↦ value_low (digit_glyph false d) d (glyph_low d low) low
      | inr high ↦ value_high (digit_glyph false d) d (glyph_high d high) high lt
    ]

-- only 0 is written as 0
pub glyph_zero : (d : ℕ) → digit_glyph false d ≡ 48 → d ≡ 0
glyph_zero d e =
    elim (cases_lt d 10) [
      | inl low ↦ omega (arith, glyph_low d low)
      | inr high ↦ absurd (omega (arith, glyph_high d high))
    ]

glyph_digit : (base c : ℕ) → base ≤ 16 → IsGlyph base c → digit_value c < base
glyph_digit base c high g = let v = glyph_value g.0 (omega (arith, g.1)) in let e = ap digit_value g.2 in omega (arith, g.1, v, e)

glyph_back : (base c : ℕ) → base ≤ 16 → IsGlyph base c → c ≡ digit_glyph false (digit_value c)
glyph_back base c high g = let v = glyph_value g.0 (omega (arith, g.1)) in g.2 ∙ sym (ap (digit_glyph false) (ap digit_value g.2 ∙ v))

-- ---- digits

-- digits of the base in lower case, at most so many, without leading zeros
pub record IsNumber (base most : ℕ) (field : List ℕ) : Type 0 where
  pub each : AllByRecursion (IsGlyph base) field
  pub some : 0 < length field
  pub short : length field ≤ most
  pub lead : get_or field 0 0 ≡ 48 → length field ≡ 1

all_append : (P : ℕ → Type 0) (xs ys : List ℕ) → AllByRecursion P xs → AllByRecursion P ys → AllByRecursion P (xs ++ ys)
all_append P [] ys p q = q
all_append P (x ∷ xs) ys p q = (p.0, all_append P xs ys p.1 q)

pub all_at : (P : ℕ → Type 0) (xs : List ℕ) (i : ℕ) → AllByRecursion P xs → i < length xs → P (get_or xs i 0)
all_at P [] i p lt = absurd (omega arith)
all_at P (x ∷ xs) zero p lt = p.0
all_at P (x ∷ xs) (suc i) p lt = all_at P xs i p.1 (omega arith)

all_take : (P : ℕ → Type 0) (i : ℕ) (xs : List ℕ) → AllByRecursion P xs → AllByRecursion P (take i xs)
all_take P zero xs p = tt
all_take P (suc i) [] p = tt
all_take P (suc i) (x ∷ xs) p = (p.0, all_take P i xs p.1)

head_append : (xs ys : List ℕ) → 0 < length xs → get_or (xs ++ ys) 0 0 ≡ get_or xs 0 0
head_append [] ys some = absurd (omega arith)
head_append (x ∷ xs) ys some = refl

-- what is written before acc
record Written (base m n : ℕ) (acc all : List ℕ) : Type 0 where
  front : List ℕ
  is : all ≡ front ++ acc
  each : AllByRecursion (IsGlyph base) front
  some : 0 < length front
  short : length front ≤ m
  lead : get_or front 0 0 ≡ 48 → n ≡ 0
  one : n < base → length front ≡ 1

power_one : (base : ℕ) → base ^ 1 ≡ base
power_one base = let once : 1 * base ≡ base = omega arith in pow-suc base 0 ∙ ap (λ (x : ℕ). x * base) (pow-zero base) ∙ once

module _ (base : ℕ) (low : 2 ≤ base) (high : base ≤ 16) where
  one_glyph : (n : ℕ) → IsGlyph base (digit_glyph false (n % base))
  one_glyph n = let pos : 0 < base = omega arith in (n % base, mod-lt n pos, refl)

  written_last : (k m n : ℕ) (acc : List ℕ) → 0 < m → n / base ≡ 0 → Written base m n acc (digits_onto (suc k) base false n acc)
  written_last k m n acc some none = record {
    front = digit_glyph false (n % base) ∷ [];
    is = cond-true _ _ _ (eq-eqb (n / base) 0 none);
    each = (one_glyph n, tt);
    some = omega arith;
    short = omega arith;
    lead = λ e. let z = glyph_zero (n % base) e in let d = div-add-mod n base in let zero_times : base * (n / base) ≡ base * 0 = ap (λ (q : ℕ). base * q) none in omega (arith, z, d, zero_times);
    one = λ _. refl;
  }

  written_more : (k m n : ℕ) (acc : List ℕ) → n / base ≢ 0 → Written base m (n / base) (digit_glyph false (n % base) ∷ acc) (digits_onto k base false (n / base) (digit_glyph false (n % base) ∷ acc))
      → Written base (suc m) n acc (digits_onto (suc k) base false n acc)
  written_more k m n acc more rest = record {
    front = rest.front ++ digit_glyph false (n % base) ∷ [];
    is = cond-false _ _ _ (ne_eqb (n / base) 0 more) ∙ rest.is ∙ sym (append_assoc rest.front (digit_glyph false (n % base) ∷ []) acc);
    each = all_append (IsGlyph base) rest.front (digit_glyph false (n % base) ∷ []) rest.each (one_glyph n, tt);
    some = omega (arith, length-append rest.front (digit_glyph false (n % base) ∷ []));
    short = omega (arith, length-append rest.front (digit_glyph false (n % base) ∷ []), rest.short);
    lead = λ e. absurd (more (rest.lead (sym (head_append rest.front (digit_glyph false (n % base) ∷ []) rest.some) ∙ e)));
    one = λ small. absurd (more (div-eq_of_lt small));
  }

  written : (k m n : ℕ) (acc : List ℕ) → 0 < m → m ≤ k → n < base ^ m → Written base m n acc (digits_onto k base false n acc)
  written zero m n acc some le lt = absurd (omega arith)
  written (suc k) zero n acc some le lt = absurd (omega arith)
  written (suc k) (suc zero) n acc some le lt = written_last k 1 n acc some (div-eq_of_lt (omega (arith, lt, power_one base)))
  written (suc k) (suc (suc m)) n acc some le lt =
      let pos : 0 < base = omega arith in
      let below : n / base < base ^ suc m = (div-lt_iff_lt-mul {k = base} {x = n} {y = base ^ suc m} pos).1 (rw (← pow-suc) lt) in
      elim (cases_eq (n / base) 0) [
        | inl none ↦ written_last k (suc (suc m)) n acc some none
        | inr more ↦ written_more k (suc m) n acc more (written k (suc m) (n / base) (digit_glyph false (n % base) ∷ acc) (omega arith) (omega arith) below)
      ]

-- the digits of a number are such
pub digits_number : (base most n : ℕ) → 2 ≤ base → base ≤ 16 → 0 < most → most ≤ 64 → n < base ^ most → IsNumber base most (digits base false n)
unfolding digits
digits_number base most n low high some le lt =
    let w = written base low high 64 most n [] some le lt in
    subst (IsNumber base most) (sym (w.is ∙ append-nil w.front)) (record { each = w.each; some = w.some; short = w.short; lead = λ e. w.one (omega (arith, w.lead e)) })

-- ---- the number of digits

all_digits : (base : ℕ) (field : List ℕ) → base ≤ 16 → AllByRecursion (IsGlyph base) field → AllDigits base field
all_digits base [] high each = tt
all_digits base (c ∷ cs) high each = (glyph_digit base c high each.0, all_digits base cs high each.1)

pub below_power : (base most : ℕ) (field : List ℕ) → 2 ≤ base → base ≤ 16 → AllByRecursion (IsGlyph base) field → length field ≤ most → digits_value base field < base ^ most
below_power base most field low high each short =
    let lt = digits_value-lt base field (all_digits base field high each) in
    let le : base ^ length field ≤ base ^ most = pow-le-pow_right (omega arith) short in
    omega (arith, lt, le)

-- digits after a number leave it at least as large
value_ge : (base n : ℕ) (cs : List ℕ) → 1 ≤ base → n ≤ digits_value_after base n cs
value_ge base n [] some = omega arith
value_ge base n (c ∷ cs) some =
    let rest = value_ge base (n * base + digit_value c) cs some in
    let grows : n * 1 ≤ n * base = mul-le-mul_left n some in
    omega (arith, rest, grows)

value_some : (base c : ℕ) (cs : List ℕ) → 1 ≤ base → 0 < digit_value c → 0 < digits_value base (c ∷ cs)
value_some base c cs some pos = omega (arith, value_ge base (0 * base + digit_value c) cs some)

value_pos : (base : ℕ) (field : List ℕ) → 2 ≤ base → base ≤ 16 → AllByRecursion (IsGlyph base) field → 0 < length field → get_or field 0 0 ≢ 48 → 0 < digits_value base field
value_pos base [] low high each some lead = absurd (omega arith)
value_pos base (c ∷ cs) low high each some lead =
    elim (cases_eq (digit_value c) 0) [
      | inl none ↦ absurd (lead (glyph_back base c high each.0 ∙ ap (digit_glyph false) none))
      | inr more ↦ value_some base c cs (omega arith) (omega arith)
    ]

-- the digits of the number that digits are of are these
module _ (base : ℕ) (low : 2 ≤ base) (high : base ≤ 16) (field : List ℕ) (each : AllByRecursion (IsGlyph base) field) where
  abbrev Again : ℕ → ℕ → List ℕ → Type 0
  Again k i acc = digits_onto k base false (digits_value base (take (i + 1) field)) acc ≡ take (i + 1) field ++ acc

  again_step : (k i : ℕ) (acc : List ℕ) → i < length field
      → (digits_value base (take (i + 1) field) / base ≡ digits_value base (take i field))
      × (digit_glyph false (digits_value base (take (i + 1) field) % base) ≡ get_or field i 0)
      × (take (i + 1) field ++ acc ≡ take i field ++ (get_or field i 0 ∷ acc))
  again_step k i acc within =
      let glyph = all_at (IsGlyph base) field i each within in
      let small = glyph_digit base (get_or field i 0) high glyph in
      let value : digits_value base (take (i + 1) field) ≡ digits_value base (take i field) * base + digit_value (get_or field i 0) = digits_value_more base field i within in (
        ap (λ (x : ℕ). x / base) value ∙ div-mul-add (digits_value base (take i field)) base (digit_value (get_or field i 0)) small,
        ap (digit_glyph false) (ap (λ (x : ℕ). x % base) value ∙ mod-mul-add (digits_value base (take i field)) base (digit_value (get_or field i 0)) small) ∙ sym (glyph_back base (get_or field i 0) high glyph),
        ap (λ (x : List ℕ). x ++ acc) (take_more field i 0 within) ∙ append_assoc (take i field) (get_or field i 0 ∷ []) acc,
      )

  again : (k i : ℕ) (acc : List ℕ) → i < length field → i < k → (0 < i → get_or field 0 0 ≢ 48) → Again k i acc
  again zero i acc within fuel lead = absurd (omega arith)
  again (suc k) zero acc within fuel lead =
      let s = again_step (suc k) 0 acc within in
      cond-true _ _ _ (eq-eqb (digits_value base (take (0 + 1) field) / base) 0 s.0) ∙ ap (λ (x : ℕ). x ∷ acc) s.1 ∙ sym s.2
  again (suc k) (suc j) acc within fuel lead =
      let s = again_step (suc k) (suc j) acc within in
      let front = take (suc j) field in
      let same : j + 1 ≡ suc j = omega arith in
      let some : 0 < length front = rw (length-take-le (suc j) field (omega arith)) (omega arith) in
      let head : get_or front 0 0 ≡ get_or field 0 0 = get_or-take (suc j) field 0 0 (omega arith) in
      let pos : 0 < digits_value base front = value_pos base front low high (all_take (IsGlyph base) (suc j) field each) some (λ e. lead (omega arith) (sym head ∙ e)) in
      let rest : Again k j (get_or field (suc j) 0 ∷ acc) = again k j (get_or field (suc j) 0 ∷ acc) (omega arith) (omega arith) (λ _. lead (omega arith)) in
      let rest' : digits_onto k base false (digits_value base front) (get_or field (suc j) 0 ∷ acc) ≡ front ++ (get_or field (suc j) 0 ∷ acc)
      = subst (λ (x : ℕ). digits_onto k base false (digits_value base (take x field)) (get_or field (suc j) 0 ∷ acc) ≡ take x field ++ (get_or field (suc j) 0 ∷ acc)) same rest in
      cond-false _ _ _ (ne_eqb (digits_value base (take (suc j + 1) field) / base) 0 (λ e. omega (arith, pos, s.0, e)))
      ∙ ap₂ (λ (q c : ℕ). digits_onto k base false q (c ∷ acc)) s.0 s.1
      ∙ rest' ∙ sym s.2

pub number_digits : (base most : ℕ) (field : List ℕ) → 2 ≤ base → base ≤ 16 → most ≤ 64 → IsNumber base most field → digits base false (digits_value base field) ≡ field
unfolding digits
number_digits base most field low high le number =
    let i = length field - 1 in
    let whole : take (i + 1) field ≡ field = take_all (i + 1) field (omega (arith, number.some)) in
    let shown = again base low high field number.each 64 i [] (omega (arith, number.some)) (omega (arith, number.some, number.short)) (λ pos e. omega (arith, number.lead e)) in
    subst (λ (x : List ℕ). digits_onto 64 base false (digits_value base x) [] ≡ x ++ []) whole shown ∙ append-nil field

-- ---- the number in a field

pub number_found : (base most : ℕ) (field : List ℕ) → 2 ≤ base → base ≤ 16 → most ≤ 64 → IsNumber base most field → number_in base (base ^ most) field ≡ Some (digits_value base field)
unfolding number_in
number_found base most field low high le number =
    let n = digits_value base field in
    let small : ltb n (base ^ most) ≡ true = lt-ltb _ _ (below_power base most field low high number.each number.short) in
    let same : bytes_eq field (digits base false n) ≡ true = (bytes_eq-Decides field (digits base false n)).1 (sym (number_digits base most field low high le number)) in
    rw (small, same) refl

record Found (base limit n : ℕ) (field : List ℕ) : Type 0 where
  is : digits_value base field ≡ n
  small : ltb (digits_value base field) limit ≡ true
  same : bytes_eq field (digits base false (digits_value base field)) ≡ true

found_parts : (base limit n : ℕ) (field : List ℕ) → number_in base limit field ≡ Some n → Found base limit n field
unfolding number_in
found_parts base limit n field e = by (ltb (digits_value base field) limit) (bytes_eq field (digits base false (digits_value base field))) refl refl e
  where
    by : (s t : Bool) → ltb (digits_value base field) limit ≡ s → bytes_eq field (digits base false (digits_value base field)) ≡ t → cond (s && t) (Some (digits_value base field)) None ≡ Some n → Found base limit n field
    by true true p q e = record { is = cc; small = p; same = q }
    by true false p q e = absurd cc
    by false t p q e = absurd cc

-- what is found is below the limit, and its digits are the field
pub number_is : (base limit n : ℕ) (field : List ℕ) → number_in base limit field ≡ Some n → (n < limit) × (field ≡ digits base false n)
number_is base limit n field e =
    let f = found_parts base limit n field e in
    rw (← f.is) (ltb-true _ _ f.small, (bytes_eq-Decides field (digits base false (digits_value base field))).0 f.same)

none_unless : (o : Option ℕ) → ((n : ℕ) → o ≡ Some n → ⊥) → o ≡ None
none_unless None never = refl
none_unless (Some n) never = absurd (never n refl)

pub number_none : (base most : ℕ) (field : List ℕ) → 2 ≤ base → base ≤ 16 → 0 < most → most ≤ 64 → (IsNumber base most field → ⊥) → number_in base (base ^ most) field ≡ None
number_none base most field low high some le never = none_unless _ (λ n e. let p = number_is base (base ^ most) n field e in never (subst (IsNumber base most) (sym p.1) (digits_number base most n low high some le p.0)))

-- the same under a lower limit
pub narrow_some : (base limit least n : ℕ) (field : List ℕ) → number_in base limit field ≡ Some n → n < least → number_in base least field ≡ Some n
unfolding number_in
narrow_some base limit least n field e lt =
    let f = found_parts base limit n field e in
    let small : ltb (digits_value base field) least ≡ true = lt-ltb _ _ (omega (arith, f.is)) in
    rw (small, f.same) (ap Some f.is)

pub narrow_over : (base limit least n : ℕ) (field : List ℕ) → number_in base limit field ≡ Some n → least ≤ n → number_in base least field ≡ None
narrow_over base limit least n field e le = none_unless _ (λ m other. let f = found_parts base limit n field e in let g = found_parts base least m field other in omega (arith, f.is, ltb-true _ _ g.small))

found_from : (base limit n : ℕ) (field : List ℕ) → Found base limit n field → number_in base limit field ≡ Some n
unfolding number_in
found_from base limit n field f = cond-true _ (Some (digits_value base field)) None (and_from _ _ f.small f.same) ∙ ap Some f.is

some_none : (o : Option ℕ) (x : ℕ) → o ≡ Some x → o ≡ None → ⊥
some_none o x p q = cc

pub narrow_none : (base limit least : ℕ) (field : List ℕ) → number_in base limit field ≡ None → least ≤ limit → number_in base least field ≡ None
narrow_none base limit least field e le = none_unless _ (λ m other. let g = found_parts base least m field other in
    some_none (number_in base limit field) m (found_from base limit m field (record { is = g.is; small = lt-ltb _ _ (omega (arith, ltb-true _ _ g.small)); same = g.same })) e)

-- digits are read again
pub number_again : (base most n : ℕ) → 2 ≤ base → base ≤ 16 → 0 < most → most ≤ 64 → n < base ^ most → number_in base (base ^ most) (digits base false n) ≡ Some n
number_again base most n low high some le lt =
    let large : base ^ most ≤ base ^ 64 = pow-le-pow_right (omega arith) le in
    let value = (digits_is_IsNumeral base false low high n (omega (arith, lt, large))).1 in
    number_found base most (digits base false n) low high le (digits_number base most n low high some le lt) ∙ ap Some value

-- one more digit
pub digits_more : (base number digit i : ℕ) (field : List ℕ) → base ≤ 16 → AllByRecursion (IsGlyph base) (take i field) → number ≡ digits_value base (take i field) → i < length field → digit < base → get_or field i 0 ≡ digit_glyph false digit
    → AllByRecursion (IsGlyph base) (take (i + 1) field) × (number * base + digit ≡ digits_value base (take (i + 1) field))
digits_more base number digit i field high each value within small is =
    let d : digit_value (get_or field i 0) ≡ digit = ap digit_value is ∙ glyph_value digit (omega arith) in
    let e = digits_value_more base field i within in (
      subst (AllByRecursion (IsGlyph base)) (sym (take_more field i 0 within)) (all_append (IsGlyph base) (take i field) (get_or field i 0 ∷ []) each ((digit, small, is), tt)),
      ap₂ (λ (n x : ℕ). n * base + x) value (sym d) ∙ sym e,
    )

pub digits_fit : (base most number digit i : ℕ) (field : List ℕ) → 2 ≤ base → base ≤ 16 → base ^ most ≤ 2 ^ 64 → length field ≤ most → AllByRecursion (IsGlyph base) (take i field) → number ≡ digits_value base (take i field) → i < length field → digit < base → get_or field i 0 ≡ digit_glyph false digit
    → number * base + digit < 2 ^ 64
digits_fit base most number digit i field low high fits short each value within small is =
    let more = digits_more base number digit i field high each value within small is in
    let bound = below_power base most (take (i + 1) field) low high more.0 (omega (arith, length-take-le (i + 1) field (omega arith))) in
    omega (arith, more.1, bound)

-- a digit of a greater base
pub glyph_not : (base digit c : ℕ) → base ≤ 16 → digit < 16 → base ≤ digit → c ≡ digit_glyph false digit → IsGlyph base c → ⊥
glyph_not base digit c high lt ge is glyph = let v = glyph_digit base c high glyph in let e = ap digit_value is ∙ glyph_value digit lt in omega (arith, v, e)

-- ---- what the digits of a number are made of

glyph_visible : (base c : ℕ) → base ≤ 16 → IsGlyph base c → (33 ≤ c) × (c ≤ 126)
glyph_visible base c high g =
    elim (cases_lt g.0 10) [
      | inl low ↦ (omega (arith, g.2, glyph_low g.0 low), omega (arith, g.2, glyph_low g.0 low))
      | inr more ↦ (omega (arith, g.1, g.2, glyph_high g.0 more), omega (arith, g.1, g.2, glyph_high g.0 more))
    ]

glyphs_visible : (base : ℕ) (field : List ℕ) → base ≤ 16 → AllByRecursion (IsGlyph base) field → AllByRecursion (λ b. (33 ≤ b) × (b ≤ 126)) field
glyphs_visible base [] high each = tt
glyphs_visible base (c ∷ field) high each = (glyph_visible base c high each.0, glyphs_visible base field high each.1)

pub decimal_visible : (n : ℕ) → n < 2 ^ 32 → AllByRecursion (λ b. (33 ≤ b) × (b ≤ 126)) (digits 10 false n)
decimal_visible n lt = glyphs_visible 10 (digits 10 false n) (omega arith) (digits_number 10 10 n (omega arith) (omega arith) (omega arith) (omega arith) (omega arith)).each

pub hex_visible : (n : ℕ) → n < 2 ^ 64 → AllByRecursion (λ b. (33 ≤ b) × (b ≤ 126)) (digits 16 false n)
hex_visible n lt = glyphs_visible 16 (digits 16 false n) (omega arith) (digits_number 16 16 n (omega arith) (omega arith) (omega arith) (omega arith) (omega arith)).each

pub decimal_again : (n : ℕ) → n < 2 ^ 32 → number_in 10 (2 ^ 32) (digits 10 false n) ≡ Some n
decimal_again n lt = narrow_some 10 (10 ^ 10) (2 ^ 32) n (digits 10 false n) (number_again 10 10 n (omega arith) (omega arith) (omega arith) (omega arith) (omega arith)) lt

pub hex_again : (n : ℕ) → n < 2 ^ 64 → number_in 16 (2 ^ 64) (digits 16 false n) ≡ Some n
hex_again n lt = narrow_some 16 (16 ^ 16) (2 ^ 64) n (digits 16 false n) (number_again 16 16 n (omega arith) (omega arith) (omega arith) (omega arith) (omega arith)) lt

pub decimal_is : (field : List ℕ) (n : ℕ) → decimal_in field ≡ Some n → (n < 2 ^ 32) × (field ≡ decimal n)
decimal_is field n e = number_is 10 (2 ^ 32) n field e

pub hex_is : (field : List ℕ) (n : ℕ) → hex_in field ≡ Some n → (n < 2 ^ 64) × (field ≡ hex n)
hex_is field n e = number_is 16 (2 ^ 64) n field e

-- Hexadecimal digits that are written from the last one to the first.
use Rattle.std.proofs.Common.{◌≡◌, ℕ, zero, suc, ◌+◌, ◌*◌, ◌/◌, ◌%◌, ◌^◌, ◌<◌, ◌≤◌, Bool, true, false, cond, ◌&&◌, eqb, eq-eqb, ne_eqb, List, [], ◌∷◌, ◌++◌, length, get_or, refl, sym, ap, ◌∙◌, append_assoc, length-append, inl, inr, arith}
use Rattle.std.proofs.lemmas.Bool.{agree_below_at, and_parts, cases_eq, eqb-true}
use Rattle.std.proofs.lemmas.Fmt.{hex_one_digit, hex_two_digits}
use Rattle.std.proofs.Math.Nat.{pow-suc}
use Rattle.std.specs.Fmt.{digit_glyph, digits_onto, digits}
use Rattle.std.specs.List.{AllByRecursion}
use Rattle.std.specs.Str.{IsAscii, IsUtf8}
use Rattle.std.proofs.lemmas.Str.{IsUtf8-from_ascii}
use Rattle.script_text.specs.Digits.{hex}
use Rattle.script_text.specs.declared.print.numbers.TheConstants.{HEX_PAIRS}
use Rattle.script_text.proofs.Numbers.{digits_number, hex_visible}

-- ---- digits are text, and few

visible_is_ascii : (bytes : List ℕ) → AllByRecursion (λ b. (33 ≤ b) × (b ≤ 126)) bytes → IsAscii bytes
visible_is_ascii [] all i = omega arith
visible_is_ascii (b ∷ bytes) all zero = omega (arith, all.0)
visible_is_ascii (b ∷ bytes) all (suc i) = visible_is_ascii bytes all.1 i

pub hex_is_text : (n : ℕ) → n < 2 ^ 64 → IsUtf8 (hex n)
hex_is_text n small = IsUtf8-from_ascii (hex n) (visible_is_ascii (hex n) (hex_visible n small))

pub hex_short : (n : ℕ) → n < 2 ^ 64 → length (hex n) ≤ 16
hex_short n small = (digits_number 16 16 n (omega arith) (omega arith) (omega arith) (omega arith) (omega arith)).short

-- ---- the last digit, and those before it

-- what is spelled stands before what stood there
onto_append : (k n : ℕ) (xs acc : List ℕ) → digits_onto k 16 false n (xs ++ acc) ≡ digits_onto k 16 false n xs ++ acc
onto_append zero n xs acc = refl
onto_append (suc k) n xs acc =
    let glyph = digit_glyph false (n % 16) in
    by (digits_onto k 16 false (n / 16) (glyph ∷ xs ++ acc)) glyph (onto_append k (n / 16) (glyph ∷ xs) acc) (eqb (n / 16) 0)
  where
    by : (more : List ℕ) (glyph : ℕ) → more ≡ digits_onto k 16 false (n / 16) (glyph ∷ xs) ++ acc → (t : Bool) → cond t (glyph ∷ xs ++ acc) more ≡ cond t (glyph ∷ xs) (digits_onto k 16 false (n / 16) (glyph ∷ xs)) ++ acc
    by more glyph rest true = refl
    by more glyph rest false = rest

module _ (n : ℕ) (acc : List ℕ) where
  spelled_suc : (k : ℕ) (t : Bool) → eqb (n / 16) 0 ≡ t → digits_onto (suc k) 16 false n acc ≡ cond t (digit_glyph false (n % 16) ∷ acc) (digits_onto k 16 false (n / 16) (digit_glyph false (n % 16) ∷ acc))
  spelled_suc k t e = ap (λ (b : Bool). cond b (digit_glyph false (n % 16) ∷ acc) (digits_onto k 16 false (n / 16) (digit_glyph false (n % 16) ∷ acc))) e

-- room for a digit more than there are changes nothing
enough : (k n : ℕ) (acc : List ℕ) → 0 < k → n < 16 ^ k → digits_onto (suc k) 16 false n acc ≡ digits_onto k 16 false n acc
enough zero n acc some room = absurd (omega arith)
enough (suc k) n acc some room =
    elim (cases_eq (n / 16) 0) [
      | inl none ↦
          let last = eq-eqb (n / 16) 0 none in
          spelled_suc n acc (suc k) true last ∙ sym (spelled_suc n acc k true last)
      | inr more ↦
          let others = ne_eqb (n / 16) 0 more in
          let power = pow-suc 16 k in
          let below : n / 16 < 16 ^ k = omega (arith, room, power) in
          spelled_suc n acc (suc k) false others ∙ enough k (n / 16) (digit_glyph false (n % 16) ∷ acc) (some_left k below more) below ∙ sym (spelled_suc n acc k false others)
    ]
  where
    some_left : (k : ℕ) → n / 16 < 16 ^ k → ¬ (n / 16 ≡ 0) → 0 < k
    some_left zero below more = absurd (more (omega (arith, below)))
    some_left (suc k) below more = omega arith

hex_is : (n : ℕ) → hex n ≡ digits_onto 64 16 false n []
unfolding digits
hex_is n = refl

hex_step : (n : ℕ) → 16 ≤ n → n < 2 ^ 64 → hex n ≡ hex (n / 16) ++ (digit_glyph false (n % 16) ∷ [])
hex_step n big small =
    let glyph = digit_glyph false (n % 16) in
    hex_is n ∙ spelled_suc n [] 63 false (ne_eqb (n / 16) 0 (λ (none : n / 16 ≡ 0). omega (arith, none)))
    ∙ onto_append 63 (n / 16) [] (glyph ∷ [])
    ∙ ap (λ (xs : List ℕ). xs ++ (glyph ∷ [])) (sym (enough 63 (n / 16) [] (omega arith) (omega arith)) ∙ sym (hex_is (n / 16)))

-- ---- the last two

abbrev pub pair : ℕ → List ℕ
pair byte = digit_glyph false (byte / 16) ∷ digit_glyph false (byte % 16) ∷ []

abbrev has_its_digits : ℕ → Bool
has_its_digits byte = eqb (get_or HEX_PAIRS (byte * 2) 0) (digit_glyph false (byte / 16)) && eqb (get_or HEX_PAIRS (byte * 2 + 1) 0) (digit_glyph false (byte % 16))

pub pair_at : (byte : ℕ) → byte < 256 → (get_or HEX_PAIRS (byte * 2) 0 ≡ digit_glyph false (byte / 16)) × (get_or HEX_PAIRS (byte * 2 + 1) 0 ≡ digit_glyph false (byte % 16))
pair_at byte within =
    let both = and_parts _ _ (agree_below_at has_its_digits (λ _. true) 256 byte refl within) in
    (eqb-true _ _ both.0, eqb-true _ _ both.1)

pub hex_pair : (n : ℕ) → 256 ≤ n → n < 2 ^ 64 → hex n ≡ hex (n / 256) ++ pair (n % 256)
hex_pair n big small =
    let a : n / 16 / 16 ≡ n / 256 = omega arith in
    let b : n / 16 % 16 ≡ n % 256 / 16 = omega arith in
    let c : n % 16 ≡ n % 256 % 16 = omega arith in
    rw (hex_step n (omega arith) small, hex_step (n / 16) (omega arith) (omega arith), append_assoc, a, b, ← c)

pub length_pair : (n : ℕ) → 256 ≤ n → n < 2 ^ 64 → length (hex n) ≡ length (hex (n / 256)) + 2
length_pair n big small = ap length (hex_pair n big small) ∙ length-append _ _

pub hex_one : (n : ℕ) → n < 16 → hex n ≡ digit_glyph false n ∷ []
hex_one n small = hex_one_digit false n small

pub length_one : (n : ℕ) → n < 16 → length (hex n) ≡ 1
length_one n small = ap length (hex_one n small)

pub hex_two : (n : ℕ) → 16 ≤ n → n < 256 → hex n ≡ pair n
hex_two n big small = hex_two_digits false n big small

pub length_two : (n : ℕ) → 16 ≤ n → n < 256 → length (hex n) ≡ 2
length_two n big small = ap length (hex_two n big small)

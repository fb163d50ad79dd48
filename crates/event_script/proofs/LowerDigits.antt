-- The bytes of pairs of digits in lower case.
use Rattle.std.proofs.Common.{◌≡◌, ℕ, ◌+◌, ◌*◌, ◌%◌, ◌<◌, ◌≤◌, ◌≢◌, Bool, true, false, not, ◌&&◌, ◌||◌, eqb, ltb, List, [], ◌∷◌, ◌++◌, append-nil, length, get_or, Option, Some, None, Ok, Err, refl, sym, ap, ◌∙◌, eq-eqb, lt-ltb, ltb-true, arith}
use Rattle.std.specs.List.{list_all}
use Rattle.std.specs.Option.{unwrap_or}
use Rattle.std.specs.Fmt.{digit_glyph}
use Rattle.std.proofs.lemmas.Bool.{agree_below_at, and_parts, eqb-true, cond-true}
use Rattle.hex.specs.Hex.{decode_pairs, hex_digit_value, value_at, digit_or_error}
use Rattle.hex.specs.declared.error.FromHexError.TheVariants.{OddLength}
use Rattle.hex.proofs.HexLemmas.{decode_of-even}
use Rattle.script_text.specs.Lower.{is_lower, lower_value, pair_bytes}
use Rattle.script_text.specs.Fields.{hex_bytes_in}
use Rattle.event_script.proofs.Sections.{lower_below, undecoded_in, decoded_in}
use Rattle.script_text.proofs.DigitTable.{or_right}

pub small_is_lower : (c : ℕ) → c < 256 → ltb (lower_value c) 16 ≡ is_lower c
small_is_lower c within = agree_below_at (λ c. ltb (lower_value c) 16) is_lower 256 c refl within

abbrev is_its_value : ℕ → Bool
is_its_value c = not (is_lower c) || eqb (unwrap_or (hex_digit_value c) 16) (lower_value c)

some_value : (o : Option ℕ) (v : ℕ) → unwrap_or o 16 ≡ v → v < 16 → o ≡ Some v
some_value None v e small = absurd (omega arith)
some_value (Some w) v e small = ap Some e

lower_small : (c : ℕ) → c < 256 → is_lower c ≡ true → lower_value c < 16
lower_small c within lower = ltb-true (lower_value c) 16 (small_is_lower c within ∙ lower)

lower_decodes : (c i : ℕ) → c < 256 → is_lower c ≡ true → value_at c i ≡ Ok (lower_value c)
lower_decodes c i within lower =
    let table = agree_below_at is_its_value (λ _. true) 256 c refl within in
    let same = eqb-true (unwrap_or (hex_digit_value c) 16) (lower_value c) (or_right (is_lower c) (eqb (unwrap_or (hex_digit_value c) 16) (lower_value c)) table lower) in
    ap (digit_or_error c i) (some_value (hex_digit_value c) (lower_value c) same (lower_small c within lower))

pairs_decode : (i : ℕ) (field : List ℕ) → length field % 2 ≡ 0 → list_all is_lower field ≡ true → decode_pairs i field ≡ Ok (pair_bytes field)
unfolding decode_pairs
pairs_decode i [] even lower = refl
pairs_decode i (a ∷ []) even lower = absurd (omega (arith, even))
pairs_decode i (a ∷ b ∷ rest) even lower =
    let first = and_parts (is_lower a) (list_all is_lower (b ∷ rest)) lower in
    let second = and_parts (is_lower b) (list_all is_lower rest) first.1 in
    let wa = lower_below a first.0 in
    let wb = lower_below b second.0 in
    let high = lower_small a wa first.0 in
    let low = lower_small b wb second.0 in
    let byte : lower_value a * 16 + lower_value b ≡ (lower_value a * 16 % 256 + lower_value b) % 256 = omega (arith, high, low) in
    let later = pairs_decode (i + 2) rest (omega (arith, even)) second.1 in
    rw (lower_decodes a i wa first.0, lower_decodes b (i + 1) wb second.0, later, byte) refl

module _ (field : List ℕ) where
  pub odd_in : length field % 2 ≢ 0 → hex_bytes_in field ≡ None
  odd_in odd = undecoded_in field OddLength (cond-true (eqb (length field % 2) 1) (Err OddLength) (decode_pairs 0 field) (eq-eqb (length field % 2) 1 (omega (arith, odd))))

  pub pairs_in : length field ≢ 0 → length field % 2 ≡ 0 → list_all is_lower field ≡ true → hex_bytes_in field ≡ Some (pair_bytes field)
  pairs_in some even lower = decoded_in field (pair_bytes field) some lower (decode_of-even field even ∙ pairs_decode 0 field even lower)

  -- where no pair is left, the bytes so far are all
  pub pairs_end : (bytes left : List ℕ) (lower : Bool) → length left < 2 → length left % 2 ≡ 0 → bytes ++ pair_bytes left ≡ pair_bytes field → (lower && list_all is_lower left) ≡ list_all is_lower field
      → (bytes ≡ pair_bytes field) × (lower ≡ list_all is_lower field)
  pairs_end bytes [] true few even so_far digits = (sym (append-nil bytes) ∙ so_far, digits)
  pairs_end bytes [] false few even so_far digits = (sym (append-nil bytes) ∙ so_far, digits)
  pairs_end bytes (a ∷ []) lower few even so_far digits = absurd (omega (arith, even))
  pairs_end bytes (a ∷ b ∷ rest) lower few even so_far digits = absurd (omega (arith, few))

-- one more pair of a field
pub pair_lower : (lower : Bool) (a b : ℕ) (rest : List ℕ) → a < 256 → b < 256 → ((lower && ltb (lower_value a) 16) && ltb (lower_value b) 16) && list_all is_lower rest ≡ lower && list_all is_lower (a ∷ b ∷ rest)
pair_lower true a b rest wa wb = rw (small_is_lower a wa, small_is_lower b wb) (by (is_lower a) (is_lower b) (list_all is_lower rest))
  where
    by : (x y z : Bool) → (x && y) && z ≡ x && (y && z)
    by true y z = refl
    by false y z = refl
pair_lower false a b rest wa wb = refl

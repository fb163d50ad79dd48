-- Digits in lower case by a table.
use Rattle.std.proofs.Common.{◌≡◌, ℕ, ◌<◌, ◌≤◌, Bool, true, false, not, ◌||◌, eqb, ltb, List, [], ◌∷◌, get_or, refl, sym, ap, ◌∙◌, lt-ltb, arith}
use Rattle.std.specs.Fmt.{digit_glyph}
use Rattle.std.proofs.lemmas.Bool.{agree_below_at, eqb-true}
use Rattle.script_text.specs.Lower.{lower_value}
use Rattle.script_text.proofs.Numbers.{IsGlyph}

-- ---- the table

abbrev pub digits_table : List ℕ
digits_table = 255 ∷ 255 ∷ 255 ∷ 255 ∷ 255 ∷ 255 ∷ 255 ∷ 255 ∷ 255 ∷ 255 ∷ 255 ∷ 255 ∷ 255 ∷ 255 ∷ 255 ∷ 255 ∷ 255 ∷ 255 ∷ 255 ∷ 255 ∷ 255 ∷ 255 ∷ 255 ∷ 255 ∷ 255 ∷ 255 ∷ 255 ∷ 255 ∷ 255 ∷ 255 ∷ 255 ∷ 255 ∷ 255 ∷ 255 ∷ 255 ∷ 255 ∷ 255 ∷ 255 ∷ 255 ∷ 255 ∷ 255 ∷ 255 ∷ 255 ∷ 255 ∷ 255 ∷ 255 ∷ 255 ∷ 255 ∷ 0 ∷ 1 ∷ 2 ∷ 3 ∷ 4 ∷ 5 ∷ 6 ∷ 7 ∷ 8 ∷ 9 ∷ 255 ∷ 255 ∷ 255 ∷ 255 ∷ 255 ∷ 255 ∷ 255 ∷ 255 ∷ 255 ∷ 255 ∷ 255 ∷ 255 ∷ 255 ∷ 255 ∷ 255 ∷ 255 ∷ 255 ∷ 255 ∷ 255 ∷ 255 ∷ 255 ∷ 255 ∷ 255 ∷ 255 ∷ 255 ∷ 255 ∷ 255 ∷ 255 ∷ 255 ∷ 255 ∷ 255 ∷ 255 ∷ 255 ∷ 255 ∷ 255 ∷ 255 ∷ 255 ∷ 255 ∷ 255 ∷ 10 ∷ 11 ∷ 12 ∷ 13 ∷ 14 ∷ 15 ∷ 255 ∷ 255 ∷ 255 ∷ 255 ∷ 255 ∷ 255 ∷ 255 ∷ 255 ∷ 255 ∷ 255 ∷ 255 ∷ 255 ∷ 255 ∷ 255 ∷ 255 ∷ 255 ∷ 255 ∷ 255 ∷ 255 ∷ 255 ∷ 255 ∷ 255 ∷ 255 ∷ 255 ∷ 255 ∷ 255 ∷ 255 ∷ 255 ∷ 255 ∷ 255 ∷ 255 ∷ 255 ∷ 255 ∷ 255 ∷ 255 ∷ 255 ∷ 255 ∷ 255 ∷ 255 ∷ 255 ∷ 255 ∷ 255 ∷ 255 ∷ 255 ∷ 255 ∷ 255 ∷ 255 ∷ 255 ∷ 255 ∷ 255 ∷ 255 ∷ 255 ∷ 255 ∷ 255 ∷ 255 ∷ 255 ∷ 255 ∷ 255 ∷ 255 ∷ 255 ∷ 255 ∷ 255 ∷ 255 ∷ 255 ∷ 255 ∷ 255 ∷ 255 ∷ 255 ∷ 255 ∷ 255 ∷ 255 ∷ 255 ∷ 255 ∷ 255 ∷ 255 ∷ 255 ∷ 255 ∷ 255 ∷ 255 ∷ 255 ∷ 255 ∷ 255 ∷ 255 ∷ 255 ∷ 255 ∷ 255 ∷ 255 ∷ 255 ∷ 255 ∷ 255 ∷ 255 ∷ 255 ∷ 255 ∷ 255 ∷ 255 ∷ 255 ∷ 255 ∷ 255 ∷ 255 ∷ 255 ∷ 255 ∷ 255 ∷ 255 ∷ 255 ∷ 255 ∷ 255 ∷ 255 ∷ 255 ∷ 255 ∷ 255 ∷ 255 ∷ 255 ∷ 255 ∷ 255 ∷ 255 ∷ 255 ∷ 255 ∷ 255 ∷ 255 ∷ 255 ∷ 255 ∷ 255 ∷ 255 ∷ 255 ∷ 255 ∷ 255 ∷ 255 ∷ 255 ∷ 255 ∷ 255 ∷ 255 ∷ 255 ∷ 255 ∷ 255 ∷ 255 ∷ 255 ∷ 255 ∷ 255 ∷ 255 ∷ 255 ∷ 255 ∷ 255 ∷ 255 ∷ 255 ∷ 255 ∷ 255 ∷ 255 ∷ 255 ∷ 255 ∷ 255 ∷ 255 ∷ 255 ∷ 255 ∷ []

pub table_value : (c : ℕ) → c < 256 → get_or digits_table c 0 ≡ lower_value c
table_value c within = eqb-true (get_or digits_table c 0) (lower_value c) (agree_below_at (λ c. eqb (get_or digits_table c 0) (lower_value c)) (λ _. true) 256 c refl within)

-- ---- one digit

pub or_right : (x y : Bool) → (not x || y) ≡ true → x ≡ true → y ≡ true
or_right true y e t = e
or_right false y e t = absurd cc

abbrev is_its_glyph : ℕ → Bool
is_its_glyph c = not (ltb (lower_value c) 16) || eqb c (digit_glyph false (lower_value c))

lower_glyph : (c : ℕ) → c < 256 → lower_value c < 16 → c ≡ digit_glyph false (lower_value c)
lower_glyph c within small =
    eqb-true c (digit_glyph false (lower_value c)) (or_right (ltb (lower_value c) 16) (eqb c (digit_glyph false (lower_value c))) (agree_below_at is_its_glyph (λ _. true) 256 c refl within) (lt-ltb (lower_value c) 16 small))

pub glyph_of : (c d : ℕ) → c < 256 → d ≡ lower_value c → d < 16 → c ≡ digit_glyph false d
glyph_of c d within is small = lower_glyph c within (omega (arith, is, small)) ∙ ap (digit_glyph false) (sym is)

glyph_value : (d : ℕ) → d < 16 → lower_value (digit_glyph false d) ≡ d
glyph_value d within = eqb-true (lower_value (digit_glyph false d)) d (agree_below_at (λ d. eqb (lower_value (digit_glyph false d)) d) (λ _. true) 16 d refl within)

-- a digit of the base has a value below it
pub glyph_below : (base c : ℕ) → base ≤ 16 → IsGlyph base c → lower_value c < base
glyph_below base c high g = (let v = ap lower_value g.2 ∙ glyph_value g.0 (omega (arith, g.1)) in omega (arith, g.1, v))

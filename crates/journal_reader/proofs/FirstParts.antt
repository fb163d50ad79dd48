-- Words and numbers at the front of a text: what is read is spelled so, and what is spelled so is read.
use Rattle.std.proofs.Common.{◌≡◌, ◌≢◌, ℕ, ◌^◌, ◌<◌, ◌≤◌, Bool, true, false, cond, eqb, List, [], ◌∷◌, ◌++◌, Option, Some, None, refl, sym, ap, ap₂, subst, ◌∙◌, eq-eqb, ne_eqb, eqb-true, arith}
use Rattle.std.specs.List.{AllByRecursion}
use Rattle.std.specs.Option.{option_map}
use Rattle.std.specs.Fmt.{decimal}
use Rattle.std.proofs.lemmas.Bool.{cond-true, cond-false}
use Rattle.script_text.specs.Digits.{hex}
use Rattle.script_text.specs.Fields.{decimal_in, hex_in}
use Rattle.script_text.proofs.Numbers.{number_is, decimal_again, hex_again, decimal_visible, hex_visible}
use Rattle.journal_reader.specs.FirstNumbers.{before_space, from_space, decimal_first, hex_first, past_word}
use Rattle.journal_reader.proofs.Options.{map_parts}

-- ---- words

pub past_again : (word rest : List ℕ) → past_word word (word ++ rest) ≡ Some rest
unfolding past_word
past_again [] rest = refl
past_again (c ∷ word) rest = cond-true (eqb c c) (past_word word (word ++ rest)) None (eq-eqb c c refl) ∙ past_again word rest

pub past_is : (word text rest : List ℕ) → past_word word text ≡ Some rest → text ≡ word ++ rest
unfolding past_word
past_is [] text rest e = cc
past_is (c ∷ word) [] rest e = absurd cc
past_is (c ∷ word) (b ∷ text) rest e = by (eqb c b) refl (past_is word text rest) e
  where
    by : (t : Bool) → eqb c b ≡ t → (past_word word text ≡ Some rest → text ≡ word ++ rest) → cond t (past_word word text) None ≡ Some rest → b ∷ text ≡ c ∷ (word ++ rest)
    by true same more e = ap₂ (λ (x : ℕ) (xs : List ℕ). x ∷ xs) (sym (eqb-true c b same)) (more e)
    by false same more e = absurd cc

pub past_none : (word text : List ℕ) → ((rest : List ℕ) → text ≢ word ++ rest) → past_word word text ≡ None
past_none word text never = by (past_word word text) refl
  where
    by : (found : Option (List ℕ)) → past_word word text ≡ found → found ≡ None
    by None is = refl
    by (Some rest) is = absurd (never rest (past_is word text rest is))

pub past_some : (word text rest : List ℕ) → text ≡ word ++ rest → past_word word text ≡ Some rest
past_some word text rest e = ap (past_word word) e ∙ past_again word rest

-- ---- up to a space

-- nothing comes, or a space (32)
abbrev pub IsCut : List ℕ → Type 0
IsCut [] = Unit {0}
IsCut (b ∷ rest) = b ≡ 32

pub cut_parts : (field rest : List ℕ) → AllByRecursion (λ b. (33 ≤ b) × (b ≤ 126)) field → IsCut rest → (before_space (field ++ rest) ≡ field) × (from_space (field ++ rest) ≡ rest)
cut_parts [] [] visible cut = (refl, refl)
cut_parts [] (b ∷ rest) visible cut = (
  cond-true (eqb b 32) [] (b ∷ before_space rest) (eq-eqb b 32 cut),
  cond-true (eqb b 32) (b ∷ rest) (from_space rest) (eq-eqb b 32 cut),
)
cut_parts (b ∷ field) rest visible cut =
    let more = cut_parts field rest visible.1 cut in
    let differs : eqb b 32 ≡ false = ne_eqb b 32 (λ e. omega (arith, visible.0)) in (
      cond-false (eqb b 32) [] (b ∷ before_space (field ++ rest)) differs ∙ ap (λ (x : List ℕ). b ∷ x) more.0,
      cond-false (eqb b 32) (b ∷ (field ++ rest)) (from_space (field ++ rest)) differs ∙ more.1,
    )

pub cut_joined : (bytes : List ℕ) → before_space bytes ++ from_space bytes ≡ bytes
cut_joined [] = refl
cut_joined (b ∷ bytes) = by (eqb b 32) (cut_joined bytes)
  where
    by : (t : Bool) → before_space bytes ++ from_space bytes ≡ bytes → cond t [] (b ∷ before_space bytes) ++ cond t (b ∷ bytes) (from_space bytes) ≡ b ∷ bytes
    by true more = refl
    by false more = ap (λ (x : List ℕ). b ∷ x) more

-- ---- numbers

-- a number up to the first space, and what follows it
abbrev first_read : (List ℕ → Option ℕ) → List ℕ → Option (ℕ × List ℕ)
first_read number_of bytes = option_map (λ n. (n, from_space bytes)) (number_of (before_space bytes))

-- a number whose spelling is read back, before what follows
spelled_first : (number_of : List ℕ → Option ℕ) (spelled : ℕ → List ℕ) (n : ℕ) (rest : List ℕ) → AllByRecursion (λ b. (33 ≤ b) × (b ≤ 126)) (spelled n) → IsCut rest → number_of (spelled n) ≡ Some n → first_read number_of (spelled n ++ rest) ≡ Some (n, rest)
spelled_first number_of spelled n rest visible cut again =
    let p = cut_parts (spelled n) rest visible cut in
    ap₂ (λ (field follows : List ℕ). option_map (λ (m : ℕ). (m, follows)) (number_of field)) p.0 p.1
    ∙ ap (option_map (λ (m : ℕ). (m, rest))) again

pub decimal_first_again : (n : ℕ) (rest : List ℕ) → n < 2 ^ 32 → IsCut rest → decimal_first (decimal n ++ rest) ≡ Some (n, rest)
unfolding decimal_first
decimal_first_again n rest lt cut = spelled_first decimal_in decimal n rest (decimal_visible n lt) cut (decimal_again n lt)

pub hex_first_again : (n : ℕ) (rest : List ℕ) → n < 2 ^ 64 → IsCut rest → hex_first (hex n ++ rest) ≡ Some (n, rest)
unfolding hex_first
hex_first_again n rest lt cut = spelled_first hex_in hex n rest (hex_visible n lt) cut (hex_again n lt)

-- a number that is read before what follows is spelled there
first_spelled : (number_of : List ℕ → Option ℕ) (spelled : ℕ → List ℕ) (end : ℕ) → ((n : ℕ) (field : List ℕ) → number_of field ≡ Some n → (n < end) × (field ≡ spelled n)) → (bytes : List ℕ) (n : ℕ) (rest : List ℕ) → first_read number_of bytes ≡ Some (n, rest) → (n < end) × (bytes ≡ spelled n ++ rest)
first_spelled number_of spelled end is bytes n rest e =
    let p = map_parts (λ (m : ℕ). (m, from_space bytes)) (number_of (before_space bytes)) (n, rest) e in
    let number : p.0 ≡ n = ap (λ (x : ℕ × List ℕ). x.0) p.2 in
    let follows : from_space bytes ≡ rest = ap (λ (x : ℕ × List ℕ). x.1) p.2 in
    let q = is p.0 (before_space bytes) p.1 in (
      subst (λ (m : ℕ). m < end) number q.0,
      sym (cut_joined bytes) ∙ ap₂ (λ (x y : List ℕ). x ++ y) (q.1 ∙ ap spelled number) follows,
    )

pub decimal_first_is : (bytes : List ℕ) (n : ℕ) (rest : List ℕ) → decimal_first bytes ≡ Some (n, rest) → (n < 2 ^ 32) × (bytes ≡ decimal n ++ rest)
unfolding decimal_first
decimal_first_is = first_spelled decimal_in decimal (2 ^ 32) (number_is 10 (2 ^ 32))

pub hex_first_is : (bytes : List ℕ) (n : ℕ) (rest : List ℕ) → hex_first bytes ≡ Some (n, rest) → (n < 2 ^ 64) × (bytes ≡ hex n ++ rest)
unfolding hex_first
hex_first_is = first_spelled hex_in hex (2 ^ 64) (number_is 16 (2 ^ 64))

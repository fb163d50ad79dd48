-- The bytes of sections as text, and the section that bytes are.
use Rattle.std.proofs.Common.{◌≡◌, ℕ, suc, ◌+◌, ◌*◌, ◌/◌, ◌%◌, ◌<◌, ◌≤◌, ◌≢◌, true≢false, ◌⊎◌, inl, inr, Bool, true, false, cond, not, ◌&&◌, ◌||◌, eqb, leb, List, [], ◌∷◌, length, Option, Some, None, Result, Ok, Err, refl, sym, ap, ap₂, subst, ◌∙◌, arith}
use Rattle.std.specs.Prelude.{slice_index, codes}
use Rattle.std.specs.List.{AllByRecursion, list_all}
use Rattle.std.specs.Option.{unwrap_or}
use Rattle.std.specs.Str.{bytes_eq}
use Rattle.std.proofs.lemmas.Bool.{agree_below_at, and_parts, and_from, or_cases, leb-true, cond-true, cond-false, eqb-true, and_right}
use Rattle.std.proofs.lemmas.Nat.{div-mul-add, mod-mul-add}
use Rattle.std.proofs.lemmas.Slice.Eq.{bytes_eq-Decides}
use Rattle.hex.specs.Hex.{◌>>=◌, IsBytes, decode_of, decode_pairs, encode_lower, encode_with, hex_digit_value, lower_digits, pair_value, value_at, digit_or_error}
use Rattle.hex.specs.declared.error.FromHexError.{FromHexError}
use Rattle.hex.proofs.HexLemmas.{decode_of-ok, decode_of-even, decode_of-encode_lower}
use Rattle.frame_parse.specs.declared.fault.FrameFault.{FrameFault}
use Rattle.frame_parse.specs.declared.fault.FrameFault.TheVariants as frame_fault
use Rattle.frame_parse.specs.Entries.{Record}
use Rattle.frame_parse.specs.Entries.{FdeRecord}
use Rattle.frame_parse.specs.Sections.{SectionData, HasFdes, IsSection, IsRefused, fdes_of}
use Rattle.frame_parse.specs.Reading.{section_of}
use Rattle.frame_parse.proofs.OneAnswer.{one_answer, answered}
use Rattle.script_text.specs.Lower.{is_lower}
use Rattle.script_text.proofs.DigitTable.{or_right}
use Rattle.script_text.specs.Fields.{bytes_if, hex_bytes_in, section_bytes}
use Rattle.script_text.specs.Statements.{section_digits}
use Rattle.event_script.specs.Reading.{IsOfBytes}
use Rattle.script_text.specs.declared.reason.Reason.TheVariants as reason

-- ---- digits in lower case

-- a digit in lower case is the one of its value
abbrev is_its_digit : ℕ → Bool
is_its_digit c = not (is_lower c) || eqb (slice_index lower_digits (unwrap_or (hex_digit_value c) 0)) c

pub lower_below : (c : ℕ) → is_lower c ≡ true → c < 256
lower_below c e = elim (or_cases (leb 48 c && leb c 57) (leb 97 c && leb c 102) e) [
  | inl low ↦ omega (arith, leb-true c 57 (and_parts (leb 48 c) (leb c 57) low).1)
  | inr high ↦ omega (arith, leb-true c 102 (and_parts (leb 97 c) (leb c 102) high).1)
]

lower_digit : (c v : ℕ) → is_lower c ≡ true → hex_digit_value c ≡ Some v → slice_index lower_digits v ≡ c
lower_digit c v lower is =
    let table = agree_below_at is_its_digit (λ _. true) 256 c refl (lower_below c lower) in
    let same = or_right (is_lower c) (eqb (slice_index lower_digits (unwrap_or (hex_digit_value c) 0)) c) table lower in
    ap (λ (o : Option ℕ). slice_index lower_digits (unwrap_or o 0)) (sym is) ∙ eqb-true (slice_index lower_digits (unwrap_or (hex_digit_value c) 0)) c same

digit_small : (c v : ℕ) → hex_digit_value c ≡ Some v → v < 16
digit_small c v h = grind (arith)

bind_hex : {A B : Type 0} (r : Result A FromHexError) (f : A → Result B FromHexError) (y : B) → (r >>= f) ≡ Ok y → (x : A) × (r ≡ Ok x) × (f x ≡ Ok y)
bind_hex (Ok x) f y e = (x, refl, e)
bind_hex (Err d) f y e = absurd cc

value_is : (c i : ℕ) (o : Option ℕ) (v : ℕ) → digit_or_error c i o ≡ Ok v → o ≡ Some v
value_is c i (Some w) v e = let same : w ≡ v = cc in ap Some same
value_is c i None v e = absurd cc

abbrev decoded_byte : ℕ → Result ℕ FromHexError
decoded_byte x = Ok x

abbrev decoded_bytes : List ℕ → Result (List ℕ) FromHexError
decoded_bytes x = Ok x

byte_is : (x y : ℕ) → decoded_byte x ≡ decoded_byte y → x ≡ y
byte_is x y e = cc

bytes_is : (x y : List ℕ) → decoded_bytes x ≡ decoded_bytes y → x ≡ y
bytes_is x y e = cc

pairs_again : (i : ℕ) (field bytes : List ℕ) → list_all is_lower field ≡ true → decode_pairs i field ≡ Ok bytes → encode_lower bytes ≡ field
unfolding decode_pairs encode_with
pairs_again i [] bytes lower e = let none : [] ≡ bytes = cc in ap encode_lower (sym none)
pairs_again i (a ∷ []) bytes lower e = absurd cc
pairs_again i (a ∷ b ∷ rest) bytes lower e =
    let first = and_parts (is_lower a) (list_all is_lower (b ∷ rest)) lower in
    let second = and_parts (is_lower b) (list_all is_lower rest) first.1 in
    let p = bind_hex (pair_value a b i) _ bytes e in
    let q = bind_hex (decode_pairs (i + 2) rest) _ bytes p.2 in
    let h = bind_hex (value_at a i) _ p.0 p.1 in
    let l = bind_hex (value_at b (i + 1)) _ p.0 h.2 in
    let high = value_is a i (hex_digit_value a) h.0 h.1 in
    let low = value_is b (i + 1) (hex_digit_value b) l.0 l.1 in
    let small = digit_small b l.0 low in
    let byte : h.0 * 16 + l.0 ≡ p.0 = byte_is (h.0 * 16 + l.0) p.0 l.2 in
    let whole : p.0 ∷ q.0 ≡ bytes = bytes_is (p.0 ∷ q.0) bytes q.2 in
    let again = pairs_again (i + 2) rest q.0 second.1 q.1 in
    let quotient : p.0 / 16 ≡ h.0 = ap (λ (x : ℕ). x / 16) (sym byte) ∙ div-mul-add h.0 16 l.0 small in
    let remainder : p.0 % 16 ≡ l.0 = ap (λ (x : ℕ). x % 16) (sym byte) ∙ mod-mul-add h.0 16 l.0 small in
    ap encode_lower (sym whole)
    ∙ ap₂ (λ (x y : ℕ). x ∷ y ∷ encode_lower q.0) (ap (slice_index lower_digits) quotient ∙ lower_digit a h.0 first.0 high) (ap (slice_index lower_digits) remainder ∙ lower_digit b l.0 second.0 low)
    ∙ ap (λ (x : List ℕ). a ∷ b ∷ x) again

pub lower_again : (field bytes : List ℕ) → list_all is_lower field ≡ true → decode_of field ≡ Ok bytes → encode_lower bytes ≡ field
lower_again field bytes lower e = let ok = decode_of-ok field bytes e in pairs_again 0 field bytes lower (sym (decode_of-even field ok.0) ∙ e)

-- what is written is in lower case
digit_lower : (d : ℕ) → d < 16 → is_lower (slice_index lower_digits d) ≡ true
digit_lower d lt = agree_below_at (λ x. is_lower (slice_index lower_digits x)) (λ _. true) 16 d refl lt

pub encode_is_lower : (bytes : List ℕ) → IsBytes bytes → list_all is_lower (encode_lower bytes) ≡ true
unfolding encode_with
encode_is_lower [] fits = refl
encode_is_lower (b ∷ bytes) fits =
    let small : b < 256 = fits 0 in
    and_from _ _ (digit_lower (b / 16) (omega arith)) (and_from _ _ (digit_lower (b % 16) (omega arith)) (encode_is_lower bytes (λ i. fits (suc i))))

-- ---- the bytes of a field

none_unless : {A : Type 0} (o : Option A) → ((x : A) → o ≡ Some x → ⊥) → o ≡ None
none_unless None never = refl
none_unless (Some x) never = absurd (never x refl)

pub dash_in : (field : List ℕ) → bytes_eq field (codes "-") ≡ true → section_bytes field ≡ Some []
unfolding section_bytes
dash_in field dash = cond-true (bytes_eq field (codes "-")) (Some []) (hex_bytes_in field) dash

pub no_dash_in : (field : List ℕ) → bytes_eq field (codes "-") ≡ false → section_bytes field ≡ hex_bytes_in field
unfolding section_bytes
no_dash_in field other = cond-false (bytes_eq field (codes "-")) (Some []) (hex_bytes_in field) other

module _ (field : List ℕ) where
  decoded : hex_bytes_in field ≡ bytes_if field (decode_of field)
  unfolding hex_bytes_in
  decoded = refl

  -- text that doesn't decode
  pub undecoded_in : (e : FromHexError) → decode_of field ≡ Err e → hex_bytes_in field ≡ None
  undecoded_in e is = decoded ∙ ap (bytes_if field) is

  pub empty_in : length field ≡ 0 → hex_bytes_in field ≡ None
  unfolding decode_pairs
  empty_in none = decoded ∙ by field none
    where
      by : (field : List ℕ) → length field ≡ 0 → bytes_if field (decode_of field) ≡ None
      by [] none = refl
      by (b ∷ field) none = absurd (omega arith)

  -- text with another byte than digits in lower case
  pub not_lower_in : list_all is_lower field ≡ false → hex_bytes_in field ≡ None
  not_lower_in other = none_unless (hex_bytes_in field) (λ bytes e. by (decode_of field) refl bytes (sym decoded ∙ e))
    where
      same : (b : ℕ) (rest bytes : List ℕ) → decode_of field ≡ Ok (b ∷ rest) → (t : Bool) → bytes_eq field (encode_lower (b ∷ rest)) ≡ t → cond t (Some (b ∷ rest)) None ≡ Some bytes → ⊥
      same b rest bytes is true eq e =
          let spelled = (bytes_eq-Decides field (encode_lower (b ∷ rest))).0 eq in
          let lower = encode_is_lower (b ∷ rest) (decode_of-ok field (b ∷ rest) is).3 in
          true≢false (sym lower ∙ ap (list_all is_lower) (sym spelled) ∙ other)
      same b rest bytes is false eq e = cc

      by : (d : Result (List ℕ) FromHexError) → decode_of field ≡ d → (bytes : List ℕ) → bytes_if field d ≡ Some bytes → ⊥
      by (Err x) is bytes e = cc
      by (Ok []) is bytes e = cc
      by (Ok (b ∷ rest)) is bytes e = same b rest bytes is (bytes_eq field (encode_lower (b ∷ rest))) refl e

  pub decoded_in : (bytes : List ℕ) → length field ≢ 0 → list_all is_lower field ≡ true → decode_of field ≡ Ok bytes → hex_bytes_in field ≡ Some bytes
  decoded_in bytes some lower is = decoded ∙ ap (bytes_if field) is ∙ by bytes (decode_of-ok field bytes is).2 (lower_again field bytes lower is)
    where
      by : (bytes : List ℕ) → length field ≡ 2 * length bytes → encode_lower bytes ≡ field → bytes_if field (Ok bytes) ≡ Some bytes
      by [] twice again = absurd (some (omega arith))
      by (b ∷ bytes) twice again = cond-true (bytes_eq field (encode_lower (b ∷ bytes))) (Some (b ∷ bytes)) None ((bytes_eq-Decides field (encode_lower (b ∷ bytes))).1 (sym again))

-- what is written is read again
encoded_text : (b : ℕ) (bytes : List ℕ) → IsBytes (b ∷ bytes) → bytes_eq (encode_lower (b ∷ bytes)) (codes "-") ≡ false
unfolding encode_with
encoded_text b bytes fits = and_right _ _ refl

pub some_bytes_again : (bytes : List ℕ) → IsBytes bytes → 0 < length bytes → hex_bytes_in (encode_lower bytes) ≡ Some bytes
unfolding hex_bytes_in
some_bytes_again [] fits some = absurd (omega arith)
some_bytes_again (b ∷ bytes) fits some =
    let text = encode_lower (b ∷ bytes) in
    ap (bytes_if text) (decode_of-encode_lower (b ∷ bytes) fits)
    ∙ cond-true (bytes_eq text text) (Some (b ∷ bytes)) None ((bytes_eq-Decides text text).1 refl)

pub bytes_again : (bytes : List ℕ) → IsBytes bytes → section_bytes (section_digits bytes) ≡ Some bytes
unfolding section_bytes
bytes_again [] fits = refl
bytes_again (b ∷ bytes) fits =
    no_dash_in (encode_lower (b ∷ bytes)) (encoded_text b bytes fits) ∙ some_bytes_again (b ∷ bytes) fits (omega arith)

-- what is written can be seen
visible_if_lower : (field : List ℕ) → list_all is_lower field ≡ true → AllByRecursion (λ b. (33 ≤ b) × (b ≤ 126)) field
visible_if_lower [] lower = tt
visible_if_lower (c ∷ field) lower =
    let p = and_parts (is_lower c) (list_all is_lower field) lower in (
      elim (or_cases (leb 48 c && leb c 57) (leb 97 c && leb c 102) p.0) [
        | inl low ↦ (omega (arith, leb-true 48 c (and_parts (leb 48 c) (leb c 57) low).0), omega (arith, leb-true c 57 (and_parts (leb 48 c) (leb c 57) low).1))
        | inr high ↦ (omega (arith, leb-true 97 c (and_parts (leb 97 c) (leb c 102) high).0), omega (arith, leb-true c 102 (and_parts (leb 97 c) (leb c 102) high).1))
      ],
      visible_if_lower field p.1,
    )

pub digits_visible : (bytes : List ℕ) → IsBytes bytes → AllByRecursion (λ b. (33 ≤ b) × (b ≤ 126)) (encode_lower bytes)
digits_visible bytes fits = visible_if_lower (encode_lower bytes) (encode_is_lower bytes fits)

pub section_visible : (bytes : List ℕ) → IsBytes bytes → AllByRecursion (λ b. (33 ≤ b) × (b ≤ 126)) (section_digits bytes)
section_visible [] fits = ((omega arith, omega arith), tt)
section_visible (b ∷ bytes) fits = visible_if_lower (encode_lower (b ∷ bytes)) (encode_is_lower (b ∷ bytes) fits)

-- ---- the section that bytes are

module _ (address : ℕ) (bytes : List ℕ) where
  abbrev some_answer : Type 0
  some_answer = ((rs : List Record) × IsSection address bytes rs) ⊎ ((f : FrameFault) × IsRefused address bytes f)

  pub section_ok : (fdes : List FdeRecord) → HasFdes address bytes fdes → section_of address bytes ≡ Ok (record { address = address; bytes = bytes; fdes = fdes })
  section_ok = (answered address bytes).contents

  pub section_bad : (f : FrameFault) → IsRefused address bytes f → section_of address bytes ≡ Err f
  section_bad = (answered address bytes).refusal

  -- what was found is a section
  pub section_is : (section : SectionData) → section_of address bytes ≡ Ok section → (section.address ≡ address) × (section.bytes ≡ bytes) × HasFdes section.address section.bytes section.fdes
  unfolding HasFdes
  section_is section e = by (one_answer address bytes).some
    where
      by : some_answer → (section.address ≡ address) × (section.bytes ≡ bytes) × HasFdes section.address section.bytes section.fdes
      by (inl found) =
          let is = section_ok (fdes_of found.0) (found.0, found.1, refl) in
          let same : record { address = address; bytes = bytes; fdes = fdes_of found.0 } ≡ section = cc in
          subst (λ (s : SectionData). (s.address ≡ address) × (s.bytes ≡ bytes) × HasFdes s.address s.bytes s.fdes) same (refl, refl, (found.0, found.1, refl))
      by (inr refused) = (let is = section_bad refused.0 refused.1 in absurd cc)

  -- a section that was read is the one that the bytes are
  pub section_ok_of : (section : SectionData) → section.address ≡ address → section.bytes ≡ bytes → HasFdes address bytes section.fdes → section_of address bytes ≡ Ok section
  section_ok_of section at is has = section_ok section.fdes has ∙ ap₂ (λ (a : ℕ) (b : List ℕ). Ok (record { address = a; bytes = b; fdes = section.fdes })) (sym at) (sym is)

  pub section_bad_or : (f : FrameFault) → (f ≡ frame_fault.NoMemory → ⊥) → (f ≡ frame_fault.NoMemory) ⊎ IsRefused address bytes f → section_of address bytes ≡ Err f
  section_bad_or f other (inl memory) = absurd (other memory)
  section_bad_or f other (inr is) = section_bad f is

  -- what is no section is refused for this
  pub section_refused : (f : FrameFault) → section_of address bytes ≡ Err f → IsRefused address bytes f
  unfolding HasFdes
  section_refused f e = by (one_answer address bytes).some
    where
      fault_is : (r : Result SectionData FrameFault) (x y : FrameFault) → r ≡ Err x → r ≡ Err y → x ≡ y
      fault_is r x y p q = cc

      never : (r : Result SectionData FrameFault) (section : SectionData) → r ≡ Ok section → r ≡ Err f → ⊥
      never r section p q = cc

      by : some_answer → IsRefused address bytes f
      by (inl found) = absurd (never (section_of address bytes) (record { address = address; bytes = bytes; fdes = fdes_of found.0 }) (section_ok (fdes_of found.0) (found.0, found.1, refl)) e)
      by (inr refused) = subst (IsRefused address bytes) (fault_is (section_of address bytes) refused.0 f (section_bad refused.0 refused.1) e) refused.1

-- what is refused for another cause than memory is refused for its bytes
pub of_bytes : (f : FrameFault) → (f ≡ frame_fault.NoMemory → ⊥) → IsOfBytes (reason.Section f)
of_bytes frame_fault.NoMemory other = absurd (other refl)
of_bytes _ other = tt

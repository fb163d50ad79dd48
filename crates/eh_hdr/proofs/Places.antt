-- The FDE that begins at a place, found among places that ascend.
use Rattle.std.proofs.Common.{◌≡◌, ◌≢◌, ℕ, ◌+◌, ◌-◌, ◌%◌, ◌^◌, ◌<◌, ◌≤◌, List, length, get_or, Bool, true, false, cond, Some, None, nat_lt, refl, sym, ap, ◌∙◌, arith, inl, inr, slice_get}
use Rattle.std.specs.List.{position, position_or_len}
use Rattle.std.specs.Option.{option_map}
use Rattle.std.proofs.lemmas.Bool.{and_left, cases_lt, ne_eqb, lt-ltb, le-ltb}
use Rattle.std.proofs.lemmas.List.{length-map}
use Rattle.std.proofs.lemmas.List.Sums.{position_or_len_is}
use Rattle.std.proofs.Math.ListN.{get_or-map}
use Rattle.std.proofs.lemmas.Option.{slice_get-map, slice_get-get_or, get_or_from_slice_get}
use Rattle.frame_parse.specs.Entries.{FdeRecord, no_cie}
use Rattle.frame_parse.specs.Sections.{SectionData, fde_starts, IsAscending}
use Rattle.eh_hdr.specs.Places.{is_fde_at, section_place}

abbrev pub no_fde : FdeRecord
no_fde = record { start = 0; cie = no_cie; first = 0; range = 0; lsda = None; program = record { at = 0; end = 0 } }

pub fdes-count : (fs : List FdeRecord) → length (fde_starts fs) ≡ length fs
fdes-count fs = length-map fs (λ (f : FdeRecord). f.start)

-- what a place was told to be
pub place_told : (fs : List FdeRecord) (k r : ℕ) → option_map (λ (f : FdeRecord). f.start) (slice_get fs k) ≡ Some r → get_or (fde_starts fs) k 0 ≡ r
place_told fs k r e = get_or_from_slice_get (fde_starts fs) k r 0 (slice_get-map (λ (f : FdeRecord). f.start) fs k ∙ e)

-- the places before a number are below a place, and those from it on are not
pub record IsFirstFrom (fs : List FdeRecord) (place k : ℕ) : Type 0 where
  pub within : k ≤ length fs
  pub below : (j : ℕ) → j < k → get_or (fde_starts fs) j 0 < place
  pub above : (j : ℕ) → k ≤ j → j < length fs → place ≤ get_or (fde_starts fs) j 0

elsewhere : (place location : ℕ) (f : FdeRecord) → f.start ≢ place → is_fde_at place location f ≡ false
elsewhere place location f other = and_left _ _ (ne_eqb f.start place other)

before_first : (fs : List FdeRecord) (place location k j : ℕ) → IsFirstFrom fs place k → j < k → is_fde_at place location (get_or fs j no_fde) ≡ false
before_first fs place location k j at lt =
    let low = at.below j lt in
    let here = get_or-map (λ (f : FdeRecord). f.start) fs j no_fde in
    elsewhere place location (get_or fs j no_fde) (λ e. absurd (omega (arith, low, here, e)))

-- those after the first one begin above the place
after_first : (fs : List FdeRecord) (place location k j : ℕ) → IsAscending (fde_starts fs) → IsFirstFrom fs place k → k < j → j < length fs → is_fde_at place location (get_or fs j no_fde) ≡ false
after_first fs place location k j up at lt within =
    let size = fdes-count fs in
    let high = at.above k (omega arith) (omega arith) in
    let more = up k j lt (omega (arith, size)) in
    let here = get_or-map (λ (f : FdeRecord). f.start) fs j no_fde in
    elsewhere place location (get_or fs j no_fde) (λ e. absurd (omega (arith, high, more, here, e)))

chosen : {X : Type 0} (p : X → Bool) (xs : List X) (n : ℕ) → position_or_len p xs ≡ n → position p xs ≡ cond (nat_lt n (length xs)) (Some n) None
chosen p xs n e = ap (λ (k : ℕ). cond (nat_lt k (length xs)) (Some k) None) e

pub none_named : (fs : List FdeRecord) (place location : ℕ) → ((j : ℕ) → j < length fs → is_fde_at place location (get_or fs j no_fde) ≡ false) → None ≡ position (is_fde_at place location) fs
none_named fs place location never =
    let at = position_or_len_is (is_fde_at place location) fs (length fs) no_fde (omega arith) never (λ lt. absurd (omega arith)) in
    let no : nat_lt (length fs) (length fs) ≡ false = le-ltb (length fs) (length fs) (omega arith) in
    let whole : cond (nat_lt (length fs) (length fs)) (Some (length fs)) None ≡ None = rw no refl in
    sym (chosen (is_fde_at place location) fs (length fs) at ∙ whole)

pub named_past : (fs : List FdeRecord) (place location k : ℕ) → IsFirstFrom fs place k → length fs ≤ k → None ≡ position (is_fde_at place location) fs
named_past fs place location k at past =
    none_named fs place location (λ j lt. before_first fs place location k j at (omega arith))

pub named_here : (fs : List FdeRecord) (place location k : ℕ) → IsFirstFrom fs place k → option_map (is_fde_at place location) (slice_get fs k) ≡ Some true → k < length fs → Some k ≡ position (is_fde_at place location) fs
named_here fs place location k at e lt =
    let here = slice_get-get_or fs k no_fde lt in
    let on : is_fde_at place location (get_or fs k no_fde) ≡ true = let told : option_map (is_fde_at place location) (Some (get_or fs k no_fde)) ≡ Some true = rw here at e in cc in
    let first = position_or_len_is (is_fde_at place location) fs k no_fde (omega arith) (λ j below. before_first fs place location k j at below) (λ _. on) in
    let inside : nat_lt k (length fs) ≡ true = lt-ltb k (length fs) lt in
    let whole : cond (nat_lt k (length fs)) (Some k) None ≡ Some k = rw inside refl in
    sym (chosen (is_fde_at place location) fs k first ∙ whole)

pub named_not : (fs : List FdeRecord) (place location k : ℕ) → IsAscending (fde_starts fs) → IsFirstFrom fs place k → option_map (is_fde_at place location) (slice_get fs k) ≡ Some false → k < length fs → None ≡ position (is_fde_at place location) fs
named_not fs place location k up at e lt =
    let here = slice_get-get_or fs k no_fde lt in
    let no : is_fde_at place location (get_or fs k no_fde) ≡ false = let told : option_map (is_fde_at place location) (Some (get_or fs k no_fde)) ≡ Some false = rw here at e in cc in
    none_named fs place location (λ j inside.
    elim (cases_lt j k) [
      | inl below ↦ before_first fs place location k j at below
      | inr behind ↦
          elim (cases_lt k j) [
            | inl above ↦ after_first fs place location k j up at above inside
            | inr low ↦ let same : j ≡ k = omega arith in ap (λ (n : ℕ). is_fde_at place location (get_or fs n no_fde)) same ∙ no
          ]
    ])

-- the place of an address, where the section's own was asked
pub place_of_address : (section : SectionData) (a base : ℕ) → base ≡ section.address → (a + (2 ^ 64 - base)) % 2 ^ 64 ≡ section_place section a
place_of_address section a base e = ap (λ (n : ℕ). (a + (2 ^ 64 - n)) % 2 ^ 64) e

-- What a good line says: its fields, and what it adds.
use Rattle.std.proofs.Common.{◌≡◌, ℕ, ◌^◌, ◌<◌, Bool, true, false, cond, eqb, eqb-true, List, [], ◌∷◌, length, map, Option, Some, None, Result, Ok, Err, refl, ap, ap₂, subst, ◌∙◌, arith}
use Rattle.std.specs.Prelude.{codes}
use Rattle.std.specs.List.{find, All, AllByRecursion}
use Rattle.std.specs.Option.{ok_or, option_map, option_and_then}
use Rattle.std.proofs.lemmas.List.{length-map}
use Rattle.std.proofs.lemmas.List.Elements.{All-from_recursion}
use Rattle.std.specs.Str.{bytes_eq}
use Rattle.std.specs.Fmt.{decimal}
use Rattle.std.proofs.lemmas.Slice.Eq.{bytes_eq-Decides}
use Rattle.script_text.specs.declared.reason.Reason.{Reason}
use Rattle.script_text.specs.declared.reason.Reason.TheVariants as reason
use Rattle.script_text.specs.declared.kind.Kind.{Kind}
use Rattle.hex.specs.Hex.{IsBytes, decode_of, encode_lower}
use Rattle.hex.specs.declared.error.FromHexError.{FromHexError}
use Rattle.hex.proofs.HexLemmas.{decode_of-ok}
use Rattle.script_text.specs.Digits.{hex}
use Rattle.script_text.specs.ScriptData.{ImageData}
use Rattle.script_text.specs.Statements.{word_of, section_digits}
use Rattle.script_text.specs.Spelling.{Line}
use Rattle.script_text.specs.Fields.{decimal_in, hex_in, bytes_if, hex_bytes_in, section_bytes, all_hex_in}
use Rattle.event_script.specs.Reading.{◌>=>◌, only, two, five, has_any, one_decimal, one_hex, image_fields, numbers_in, snapshot_fields, memory_fields, kind_of, kinds}
use Rattle.script_text.specs.declared.statement.SnapshotFields.{SnapshotFields}
use Rattle.frame_expr.specs.Regions.{RegionData}
use Rattle.script_text.proofs.Numbers.{decimal_is, hex_is}

pub bind_ok : {A B E : Type 0} (r : Result A E) (f : A → Result B E) (y : B) → (r >=> f) ≡ Ok y → (x : A) × (r ≡ Ok x) × (f x ≡ Ok y)
bind_ok (Ok x) f y e = (x, refl, e)
bind_ok (Err d) f y e = absurd cc

-- tests that did not fail
pub guard_last : {A : Type 0} (b : Bool) (d : Reason) (x y : A) → cond b (Ok x) (Err d) ≡ Ok y → (b ≡ true) × (x ≡ y)
guard_last true d x y e = (refl, cc)
guard_last false d x y e = absurd cc

pub guard_then : {A : Type 0} (b : Bool) (d : Reason) (r : Result A Reason) (y : A) → cond b r (Err d) ≡ Ok y → (b ≡ true) × (r ≡ Ok y)
guard_then true d r y e = (refl, e)
guard_then false d r y e = absurd cc

pub guard_else : {A : Type 0} (b : Bool) (d : Reason) (r : Result A Reason) (y : A) → cond b (Err d) r ≡ Ok y → (b ≡ false) × (r ≡ Ok y)
guard_else true d r y e = absurd cc
guard_else false d r y e = (refl, e)

abbrev done : {A : Type 0} → A → Result A Reason
done x = Ok x

pub ok_is : {A : Type 0} (x y : A) → done x ≡ done y → x ≡ y
ok_is x y e = cc

pub some_from : {A : Type 0} (o : Option A) (d : Reason) (x : A) → ok_or o d ≡ Ok x → o ≡ Some x
some_from None d x e = absurd cc
some_from (Some y) d x e = ap Some (ok_is y x e)

only_is : (fields : Line) (field : List ℕ) → only fields ≡ Some field → fields ≡ field ∷ []
only_is [] field e = absurd cc
only_is (first ∷ []) field e = let same : first ≡ field = cc in ap (λ (x : List ℕ). x ∷ []) same
only_is (first ∷ next ∷ fields) field e = absurd cc

pub no_fields : (fields : Line) → has_any fields ≡ false → fields ≡ []
no_fields [] e = refl
no_fields (field ∷ fields) e = absurd cc

pub one_decimal_is : (fields : Line) (n : ℕ) → one_decimal fields ≡ Ok n → (n < 2 ^ 32) × (fields ≡ decimal n ∷ [])
one_decimal_is fields n e =
    let a = bind_ok (ok_or (only fields) reason.Fields) (λ field. ok_or (decimal_in field) reason.Spelling) n e in
    let d = decimal_is a.0 n (some_from (decimal_in a.0) reason.Spelling n a.2) in
    (d.0, only_is fields a.0 (some_from (only fields) reason.Fields a.0 a.1) ∙ ap (λ (x : List ℕ). x ∷ []) d.1)

pub one_hex_is : (fields : Line) (n : ℕ) → one_hex fields ≡ Ok n → (n < 2 ^ 64) × (fields ≡ hex n ∷ [])
one_hex_is fields n e =
    let a = bind_ok (ok_or (only fields) reason.Fields) (λ field. ok_or (hex_in field) reason.Spelling) n e in
    let d = hex_is a.0 n (some_from (hex_in a.0) reason.Spelling n a.2) in
    (d.0, only_is fields a.0 (some_from (only fields) reason.Fields a.0 a.1) ∙ ap (λ (x : List ℕ). x ∷ []) d.1)

five_is : (fields : Line) (f : List ℕ × List ℕ × List ℕ × List ℕ × List ℕ) → five fields ≡ Some f → fields ≡ f.0 ∷ f.1 ∷ f.2 ∷ f.3 ∷ f.4 ∷ []
five_is [] f e = absurd cc
five_is (a ∷ []) f e = absurd cc
five_is (a ∷ b ∷ []) f e = absurd cc
five_is (a ∷ b ∷ c ∷ []) f e = absurd cc
five_is (a ∷ b ∷ c ∷ d ∷ []) f e = absurd cc
five_is (a ∷ b ∷ c ∷ d ∷ x ∷ []) f e =
    let same : (a, b, c, d, x) ≡ f = cc in
    ap (λ (g : List ℕ × List ℕ × List ℕ × List ℕ × List ℕ). g.0 ∷ g.1 ∷ g.2 ∷ g.3 ∷ g.4 ∷ []) same
five_is (a ∷ b ∷ c ∷ d ∷ x ∷ y ∷ fields) f e = absurd cc

five_same : (fields : Line) (a b c d e f g h i j : List ℕ) → fields ≡ a ∷ b ∷ c ∷ d ∷ e ∷ [] → a ≡ f → b ≡ g → c ≡ h → d ≡ i → e ≡ j → fields ≡ f ∷ g ∷ h ∷ i ∷ j ∷ []
five_same fields a b c d e f g h i j is p q r s t = cc

-- bytes of which there is one at least, as a field spells them
abbrev pub AreBytes : List ℕ → List ℕ → Type 0
AreBytes field bytes = IsBytes bytes × (0 < length bytes) × (field ≡ encode_lower bytes)

bytes_parts : (field : List ℕ) (decoded : Result (List ℕ) FromHexError) (bytes : List ℕ) → decode_of field ≡ decoded → bytes_if field decoded ≡ Some bytes → AreBytes field bytes
bytes_parts field (Err e) bytes is found = absurd cc
bytes_parts field (Ok []) bytes is found = absurd cc
bytes_parts field (Ok (b ∷ others)) bytes is found = by (bytes_eq field (encode_lower (b ∷ others))) refl found
  where
    by : (t : Bool) → bytes_eq field (encode_lower (b ∷ others)) ≡ t → cond t (Some (b ∷ others)) None ≡ Some bytes → AreBytes field bytes
    by true same e =
        let bytes_is : b ∷ others ≡ bytes = cc in
        subst (AreBytes field) bytes_is ((decode_of-ok field (b ∷ others) is).3, omega arith, (bytes_eq-Decides field (encode_lower (b ∷ others))).0 same)
    by false same e = absurd cc

no_bytes : IsBytes []
no_bytes i = omega arith

pub some_bytes_are : (field bytes : List ℕ) → hex_bytes_in field ≡ Some bytes → AreBytes field bytes
unfolding hex_bytes_in
some_bytes_are field bytes e = bytes_parts field (decode_of field) bytes refl e

some_digits : (bytes : List ℕ) → 0 < length bytes → encode_lower bytes ≡ section_digits bytes
some_digits [] some = absurd (omega arith)
some_digits (b ∷ bytes) some = refl

pub bytes_are : (field bytes : List ℕ) → section_bytes field ≡ Some bytes → IsBytes bytes × (field ≡ section_digits bytes)
unfolding section_bytes
bytes_are field bytes e = by (bytes_eq field (codes "-")) refl e
  where
    by : (t : Bool) → bytes_eq field (codes "-") ≡ t → cond t (Some []) (hex_bytes_in field) ≡ Some bytes → IsBytes bytes × (field ≡ section_digits bytes)
    by true same e =
        let bytes_is : [] ≡ bytes = cc in
        subst (λ (x : List ℕ). IsBytes x × (field ≡ section_digits x)) bytes_is (no_bytes, (bytes_eq-Decides field (codes "-")).0 same)
    by false same e = (let are = some_bytes_are field bytes e in (are.0, are.2 ∙ some_digits bytes are.1))

-- an image's fields are spelled so
pub record AreImageFields (fields : Line) (image : ImageData) : Type 0 where
  pub is : fields ≡ decimal image.number ∷ hex image.base ∷ hex image.size ∷ hex image.section ∷ section_digits image.bytes ∷ []
  pub number : image.number < 2 ^ 32
  pub base : image.base < 2 ^ 64
  pub size : image.size < 2 ^ 64
  pub section : image.section < 2 ^ 64
  pub bytes : IsBytes image.bytes

abbrev read_last : {A : Type 0} → A → Result A Reason
read_last x = Ok x

-- what holds of what was read at last
same_last : {A : Type 0} (P : A → Type 0) (x y : A) → P x → read_last x ≡ read_last y → P y
same_last P x y holds e = let same : x ≡ y = cc in subst P same holds

pub image_fields_are : (fields : Line) (image : ImageData) → image_fields fields ≡ Ok image → AreImageFields fields image
image_fields_are fields image e =
    let f = bind_ok (ok_or (five fields) reason.Fields) _ image e in
    let n = bind_ok (ok_or (decimal_in f.0.0) reason.Spelling) _ image f.2 in
    let b = bind_ok (ok_or (hex_in f.0.1) reason.Spelling) _ image n.2 in
    let s = bind_ok (ok_or (hex_in f.0.2) reason.Spelling) _ image b.2 in
    let a = bind_ok (ok_or (hex_in f.0.3) reason.Spelling) _ image s.2 in
    let c = bind_ok (ok_or (section_bytes f.0.4) reason.Spelling) _ image a.2 in
    let number = decimal_is f.0.0 n.0 (some_from (decimal_in f.0.0) reason.Spelling n.0 n.1) in
    let base = hex_is f.0.1 b.0 (some_from (hex_in f.0.1) reason.Spelling b.0 b.1) in
    let size = hex_is f.0.2 s.0 (some_from (hex_in f.0.2) reason.Spelling s.0 s.1) in
    let section = hex_is f.0.3 a.0 (some_from (hex_in f.0.3) reason.Spelling a.0 a.1) in
    let bytes = bytes_are f.0.4 c.0 (some_from (section_bytes f.0.4) reason.Spelling c.0 c.1) in
    let parts = five_is fields f.0 (some_from (five fields) reason.Fields f.0 f.1) in
    same_last (AreImageFields fields) (record { number = n.0; base = b.0; size = s.0; section = a.0; bytes = c.0 }) image
    (record { is = five_same fields _ _ _ _ _ _ _ _ _ _ parts number.1 base.1 size.1 section.1 bytes.1; number = number.0; base = base.0; size = size.0; section = section.0; bytes = bytes.0 }) c.2

-- the numbers of fields
pub all_hex_are : (fields : Line) (numbers : List ℕ) → all_hex_in fields ≡ Some numbers → (fields ≡ map hex numbers) × AllByRecursion (λ n. n < 2 ^ 64) numbers
all_hex_are [] numbers e = let none : [] ≡ numbers = cc in subst (λ (ns : List ℕ). ([] ≡ map hex ns) × AllByRecursion (λ n. n < 2 ^ 64) ns) none (refl, tt)
all_hex_are (field ∷ fields) numbers e = by (hex_in field) refl (all_hex_in fields) (all_hex_are fields) e
  where
    by : (o : Option ℕ) → hex_in field ≡ o → (p : Option (List ℕ)) → ((ns : List ℕ) → p ≡ Some ns → (fields ≡ map hex ns) × AllByRecursion (λ n. n < 2 ^ 64) ns)
        → option_and_then (λ n. option_map (λ ns. n ∷ ns) p) o ≡ Some numbers → (field ∷ fields ≡ map hex numbers) × AllByRecursion (λ n. n < 2 ^ 64) numbers
    by (Some n) is (Some ns) more e =
        let same : n ∷ ns ≡ numbers = cc in
        let first = hex_is field n is in
        let rest = more ns refl in
        subst (λ (xs : List ℕ). (field ∷ fields ≡ map hex xs) × AllByRecursion (λ n. n < 2 ^ 64) xs) same (ap₂ (λ (x : List ℕ) (xs : Line). x ∷ xs) first.1 rest.0, (first.0, rest.1))
    by (Some n) is None more e = absurd cc
    by None is p more e = absurd cc

-- a snapshot's fields are spelled so
pub record AreSnapshotFields (fields : Line) (snapshot : SnapshotFields) : Type 0 where
  pub is : fields ≡ decimal snapshot.number ∷ map hex snapshot.regs.columns
  pub number : snapshot.number < 2 ^ 32
  pub count : length snapshot.regs.columns ≡ 17
  pub columns : All (λ n. n < 2 ^ 64) snapshot.regs.columns

numbers_are : (fields : Line) (snapshot : SnapshotFields) → length fields ≡ 18 → numbers_in fields ≡ Ok snapshot → AreSnapshotFields fields snapshot
numbers_are [] snapshot count e = absurd (omega arith)
numbers_are (number ∷ columns) snapshot count e =
    let n = bind_ok (ok_or (decimal_in number) reason.Spelling) _ snapshot e in
    let c = bind_ok (ok_or (all_hex_in columns) reason.Spelling) _ snapshot n.2 in
    let first = decimal_is number n.0 (some_from (decimal_in number) reason.Spelling n.0 n.1) in
    let rest = all_hex_are columns c.0 (some_from (all_hex_in columns) reason.Spelling c.0 c.1) in
    let same_count : length columns ≡ length c.0 = ap (λ (xs : Line). length xs) rest.0 ∙ length-map c.0 hex in
    same_last (AreSnapshotFields (number ∷ columns)) (record { number = n.0; regs = record { columns = c.0 } }) snapshot
    (record {
      is = ap₂ (λ (x : List ℕ) (xs : Line). x ∷ xs) first.1 rest.0;
      number = first.0;
      count = omega arith;
      columns = All-from_recursion (λ n. n < 2 ^ 64) c.0 rest.1;
    }) c.2

pub snapshot_fields_are : (fields : Line) (snapshot : SnapshotFields) → snapshot_fields fields ≡ Ok snapshot → AreSnapshotFields fields snapshot
snapshot_fields_are fields snapshot e =
    let count = guard_then (eqb (length fields) 18) reason.Fields (numbers_in fields) snapshot e in
    numbers_are fields snapshot (eqb-true _ _ count.0) count.1

two_is : (fields : Line) (f : List ℕ × List ℕ) → two fields ≡ Some f → fields ≡ f.0 ∷ f.1 ∷ []
two_is [] f e = absurd cc
two_is (a ∷ []) f e = absurd cc
two_is (a ∷ b ∷ []) f e = let same : (a, b) ≡ f = cc in ap (λ (g : List ℕ × List ℕ). g.0 ∷ g.1 ∷ []) same
two_is (a ∷ b ∷ c ∷ fields) f e = absurd cc

-- the fields of recorded memory are spelled so
pub record AreMemoryFields (fields : Line) (region : RegionData) : Type 0 where
  pub is : fields ≡ hex region.address ∷ encode_lower region.bytes ∷ []
  pub address : region.address < 2 ^ 64
  pub bytes : IsBytes region.bytes
  pub some : 0 < length region.bytes

pub memory_fields_are : (fields : Line) (region : RegionData) → memory_fields fields ≡ Ok region → AreMemoryFields fields region
memory_fields_are fields region e =
    let f = bind_ok (ok_or (two fields) reason.Fields) _ region e in
    let a = bind_ok (ok_or (hex_in f.0.0) reason.Spelling) _ region f.2 in
    let b = bind_ok (ok_or (hex_bytes_in f.0.1) reason.Spelling) _ region a.2 in
    let address = hex_is f.0.0 a.0 (some_from (hex_in f.0.0) reason.Spelling a.0 a.1) in
    let bytes = some_bytes_are f.0.1 b.0 (some_from (hex_bytes_in f.0.1) reason.Spelling b.0 b.1) in
    same_last (AreMemoryFields fields) (record { address = a.0; bytes = b.0 }) region
    (record {
      is = two_is fields f.0 (some_from (two fields) reason.Fields f.0 f.1) ∙ ap₂ (λ (x y : List ℕ). x ∷ y ∷ []) address.1 bytes.2;
      address = address.0;
      bytes = bytes.0;
      some = bytes.1;
    }) b.2

-- ---- the kind of a line

found_word : (word : List ℕ) (all : List Kind) (k : Kind) → find (λ x. bytes_eq word (word_of x)) all ≡ Some k → word ≡ word_of k
found_word word [] k e = absurd cc
found_word word (first ∷ all) k e = by (bytes_eq word (word_of first)) refl e (found_word word all k)
  where
    by : (t : Bool) → bytes_eq word (word_of first) ≡ t → cond t (Some first) (find (λ x. bytes_eq word (word_of x)) all) ≡ Some k → (find (λ x. bytes_eq word (word_of x)) all ≡ Some k → word ≡ word_of k) → word ≡ word_of k
    by true same e later = let first_is : first ≡ k = cc in (bytes_eq-Decides word (word_of first)).0 same ∙ ap word_of first_is
    by false same e later = later e

pub kind_word : (word : List ℕ) (k : Kind) → ok_or (kind_of word) reason.Word ≡ Ok k → word ≡ word_of k
unfolding kind_of
kind_word word k e = found_word word kinds k (some_from (kind_of word) reason.Word k e)

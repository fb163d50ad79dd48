-- What a line's fields say, and why they say nothing.
use Rattle.std.proofs.Common.{◌≡◌, ◌≢◌, ◌⊎◌, inl, inr, ℕ, zero, suc, ◌^◌, ◌<◌, Bool, true, false, cond, eqb, eqb-true, eq-eqb, List, [], ◌∷◌, length, map, replicate, Option, Some, None, Result, Ok, Err, refl, sym, ap, subst, ◌∙◌, arith}
use Rattle.std.specs.List.{All, AllByRecursion}
use Rattle.std.specs.Option.{option_map, option_and_then}
use Rattle.std.proofs.lemmas.Bool.{cond-true, eqb-false}
use Rattle.std.proofs.lemmas.List.{length-map}
use Rattle.std.proofs.lemmas.List.Elements.{recursion_from_All}
use Rattle.hex.specs.Hex.{IsBytes, encode_lower}
use Rattle.frame_expr.specs.Regions.{RegionData}
use Rattle.script_text.specs.declared.statement.SnapshotFields.{SnapshotFields}
use Rattle.std.specs.Option.{ok_or}
use Rattle.std.specs.Fmt.{decimal}
use Rattle.script_text.specs.Digits.{hex}
use Rattle.script_text.specs.ScriptData.{ImageData}
use Rattle.script_text.specs.Fields.{decimal_in, hex_in, hex_bytes_in, section_bytes, all_hex_in}
use Rattle.script_text.specs.Statements.{word_of, Form, Decimal, Hexadecimal, Bytes, BytesOrDash, forms, IsField, AreFields, kind_of_statement, statement_fields, statement_line, HasForm}
use Rattle.script_text.specs.Spelling.{Line}
use Rattle.event_script.specs.Reasons.{LineText, Says}
use Rattle.event_script.specs.Reading.{◌>=>◌, kind_of, one_decimal, one_hex, image_fields, numbers_in, snapshot_fields, memory_fields, fieldless, statement_of}
use Rattle.script_text.specs.declared.script.Event.TheVariants as event
use Rattle.script_text.specs.declared.reason.Reason.{Reason}
use Rattle.script_text.specs.declared.reason.Reason.TheVariants as reason
use Rattle.script_text.specs.declared.kind.Kind.{Kind}
use Rattle.script_text.specs.declared.kind.Kind.TheVariants as kind
use Rattle.script_text.specs.declared.statement.Statement.{Statement}
use Rattle.script_text.specs.declared.statement.Statement.TheVariants as statement
use Rattle.event_script.proofs.Steps.{bind_ok, ok_is, one_decimal_is, one_hex_is, image_fields_are, snapshot_fields_are, memory_fields_are}
use Rattle.event_script.proofs.Words.{word_again}
use Rattle.script_text.proofs.Numbers.{decimal_again, hex_again}
use Rattle.event_script.proofs.Sections.{bytes_again, some_bytes_again}

-- ---- what is said

abbrev said : Statement → Result Statement Reason
said s = Ok s

-- the fields after the word of the kind say this
pub record Spoken (k : Kind) (fields : Line) (s : Statement) : Type 0 where
  pub line : word_of k ∷ fields ≡ statement_line s
  pub form : HasForm s

same_spoken : (k : Kind) (fields : Line) (made s : Statement) → said made ≡ said s → Spoken k fields made → Spoken k fields s
same_spoken k fields made s e spoken = subst (Spoken k fields) (ok_is made s e) spoken

decimal_spoken : (k : Kind) (make : ℕ → Statement) (fields : Line) (s : Statement) → ((n : ℕ) → statement_line (make n) ≡ word_of k ∷ decimal n ∷ []) → ((n : ℕ) → n < 2 ^ 32 → HasForm (make n)) → (one_decimal fields >=> λ n. said (make n)) ≡ Ok s → Spoken k fields s
decimal_spoken k make fields s line form e =
    let a = bind_ok (one_decimal fields) (λ n. said (make n)) s e in
    let is = one_decimal_is fields a.0 a.1 in
    same_spoken k fields (make a.0) s a.2 (record { line = ap (λ (x : Line). word_of k ∷ x) is.1 ∙ sym (line a.0); form = form a.0 is.0 })

hex_spoken : (k : Kind) (make : ℕ → Statement) (fields : Line) (s : Statement) → ((n : ℕ) → statement_line (make n) ≡ word_of k ∷ hex n ∷ []) → ((n : ℕ) → n < 2 ^ 64 → HasForm (make n)) → (one_hex fields >=> λ n. said (make n)) ≡ Ok s → Spoken k fields s
hex_spoken k make fields s line form e =
    let a = bind_ok (one_hex fields) (λ n. said (make n)) s e in
    let is = one_hex_is fields a.0 a.1 in
    same_spoken k fields (make a.0) s a.2 (record { line = ap (λ (x : Line). word_of k ∷ x) is.1 ∙ sym (line a.0); form = form a.0 is.0 })

alone_spoken : (k : Kind) (made : Statement) (fields : Line) (s : Statement) → statement_line made ≡ word_of k ∷ [] → HasForm made → fieldless fields made ≡ Ok s → Spoken k fields s
alone_spoken k made [] s line form e = same_spoken k [] made s e (record { line = sym line; form = form })
alone_spoken k made (field ∷ fields) s line form e = absurd cc

pub spoken : (k : Kind) (fields : Line) (s : Statement) → statement_of k fields ≡ Ok s → Spoken k fields s
unfolding statement_of
spoken kind.Version fields s e = decimal_spoken kind.Version statement.Version fields s (λ n. refl) (λ n lt. lt) e
spoken kind.Nodes fields s e = decimal_spoken kind.Nodes statement.Nodes fields s (λ n. refl) (λ n lt. lt) e
spoken kind.Loads fields s e = decimal_spoken kind.Loads statement.Loads fields s (λ n. refl) (λ n lt. lt) e
spoken kind.Image fields s e =
    let a = bind_ok (image_fields fields) (λ image. said (statement.Image image)) s e in
    let are = image_fields_are fields a.0 a.1 in
    same_spoken kind.Image fields (statement.Image a.0) s a.2 (record { line = ap (λ (x : Line). word_of kind.Image ∷ x) are.is; form = (are.number, are.base, are.size, are.section, are.bytes) })
spoken kind.Fixed fields s e = decimal_spoken kind.Fixed statement.Fixed fields s (λ n. refl) (λ n lt. lt) e
spoken kind.Snapshot fields s e =
    let a = bind_ok (snapshot_fields fields) (λ snapshot. said (statement.Snapshot snapshot)) s e in
    let are = snapshot_fields_are fields a.0 a.1 in
    same_spoken kind.Snapshot fields (statement.Snapshot a.0) s a.2 (record { line = ap (λ (x : Line). word_of kind.Snapshot ∷ x) are.is; form = (are.number, are.count, are.columns) })
spoken kind.Memory fields s e =
    let a = bind_ok (memory_fields fields) (λ region. said (statement.Memory region)) s e in
    let are = memory_fields_are fields a.0 a.1 in
    same_spoken kind.Memory fields (statement.Memory a.0) s a.2 (record { line = ap (λ (x : Line). word_of kind.Memory ∷ x) are.is; form = (are.address, are.bytes, are.some) })
spoken kind.Round fields s e = alone_spoken kind.Round statement.Round fields s refl tt e
spoken kind.Thread fields s e = alone_spoken kind.Thread statement.Thread fields s refl tt e
spoken kind.Register fields s e = decimal_spoken kind.Register (λ n. statement.Event (event.Register n)) fields s (λ n. refl) (λ n lt. lt) e
spoken kind.Deregister fields s e = hex_spoken kind.Deregister (λ n. statement.Event (event.Deregister n)) fields s (λ n. refl) (λ n lt. lt) e
spoken kind.Replace fields s e = decimal_spoken kind.Replace (λ n. statement.Event (event.Replace n)) fields s (λ n. refl) (λ n lt. lt) e
spoken kind.Load fields s e = decimal_spoken kind.Load (λ n. statement.Event (event.Load n)) fields s (λ n. refl) (λ n lt. lt) e
spoken kind.Unload fields s e = hex_spoken kind.Unload (λ n. statement.Event (event.Unload n)) fields s (λ n. refl) (λ n lt. lt) e
spoken kind.Find fields s e = hex_spoken kind.Find (λ n. statement.Event (event.Find n)) fields s (λ n. refl) (λ n lt. lt) e
spoken kind.Unwind fields s e = decimal_spoken kind.Unwind (λ n. statement.Event (event.Unwind n)) fields s (λ n. refl) (λ n lt. lt) e
spoken kind.End fields s e = alone_spoken kind.End statement.End fields s refl tt e

-- ---- what is said is understood

pub one_decimal_again : (n : ℕ) → n < 2 ^ 32 → one_decimal (decimal n ∷ []) ≡ Ok n
one_decimal_again n lt = ap (λ (o : Option ℕ). ok_or o reason.Spelling) (decimal_again n lt)

pub one_hex_again : (n : ℕ) → n < 2 ^ 64 → one_hex (hex n ∷ []) ≡ Ok n
one_hex_again n lt = ap (λ (o : Option ℕ). ok_or o reason.Spelling) (hex_again n lt)

decimal_said : (make : ℕ → Statement) (n : ℕ) → n < 2 ^ 32 → (one_decimal (decimal n ∷ []) >=> λ m. said (make m)) ≡ Ok (make n)
decimal_said make n lt = ap (λ (r : Result ℕ Reason). r >=> λ m. said (make m)) (one_decimal_again n lt)

hex_said : (make : ℕ → Statement) (n : ℕ) → n < 2 ^ 64 → (one_hex (hex n ∷ []) >=> λ m. said (make m)) ≡ Ok (make n)
hex_said make n lt = ap (λ (r : Result ℕ Reason). r >=> λ m. said (make m)) (one_hex_again n lt)

all_hex_again : (numbers : List ℕ) → AllByRecursion (λ n. n < 2 ^ 64) numbers → all_hex_in (map hex numbers) ≡ Some numbers
all_hex_again [] small = refl
all_hex_again (n ∷ numbers) small = rw (hex_again n small.0, all_hex_again numbers small.1) refl

snapshot_said : (number : ℕ) (columns : List ℕ) → number < 2 ^ 32 → length columns ≡ 17 → All (λ n. n < 2 ^ 64) columns
    → snapshot_fields (decimal number ∷ map hex columns) ≡ Ok (record { number = number; regs = record { columns = columns } })
snapshot_said number columns lt count small =
    let fields = map hex columns in
    let all : eqb (length (decimal number ∷ fields)) 18 ≡ true = eq-eqb _ _ (omega (arith, length-map columns hex)) in
    cond-true (eqb (length (decimal number ∷ fields)) 18) (numbers_in (decimal number ∷ fields)) (Err reason.Fields) all
    ∙ rw (decimal_again number lt, all_hex_again columns (recursion_from_All (λ n. n < 2 ^ 64) columns small)) refl

memory_said : (region : RegionData) → region.address < 2 ^ 64 → IsBytes region.bytes → 0 < length region.bytes → memory_fields (hex region.address ∷ encode_lower region.bytes ∷ []) ≡ Ok region
memory_said region lt are some = rw (hex_again region.address lt, some_bytes_again region.bytes are some) refl

pub said_again : (s : Statement) → HasForm s → statement_of (kind_of_statement s) (statement_fields s) ≡ Ok s
unfolding statement_of
said_again (statement.Version version) form = decimal_said statement.Version version form
said_again (statement.Nodes nodes) form = decimal_said statement.Nodes nodes form
said_again (statement.Loads loads) form = decimal_said statement.Loads loads form
said_again (statement.Image image) form = rw (decimal_again image.number form.0, hex_again image.base form.1, hex_again image.size form.2, hex_again image.section form.3, bytes_again image.bytes form.4) refl
said_again (statement.Fixed image) form = decimal_said statement.Fixed image form
said_again (statement.Snapshot s) form = ap (λ (r : Result SnapshotFields Reason). r >=> λ snapshot. said (statement.Snapshot snapshot)) (snapshot_said s.number s.regs.columns form.0 form.1 form.2)
said_again (statement.Memory region) form = ap (λ (r : Result RegionData Reason). r >=> λ region. said (statement.Memory region)) (memory_said region form.0 form.1 form.2)
said_again statement.Round form = refl
said_again statement.Thread form = refl
said_again (statement.Event (event.Register image)) form = decimal_said (λ n. statement.Event (event.Register n)) image form
said_again (statement.Event (event.Deregister base)) form = hex_said (λ n. statement.Event (event.Deregister n)) base form
said_again (statement.Event (event.Replace image)) form = decimal_said (λ n. statement.Event (event.Replace n)) image form
said_again (statement.Event (event.Load image)) form = decimal_said (λ n. statement.Event (event.Load n)) image form
said_again (statement.Event (event.Unload base)) form = hex_said (λ n. statement.Event (event.Unload n)) base form
said_again (statement.Event (event.Find pc)) form = hex_said (λ n. statement.Event (event.Find n)) pc form
said_again (statement.Event (event.Unwind snapshot)) form = decimal_said (λ n. statement.Event (event.Unwind n)) snapshot form
said_again statement.End form = refl

-- ---- and has the fields of its kind

decimal_fits : (n : ℕ) → n < 2 ^ 32 → AreFields (Decimal ∷ []) (decimal n ∷ [])
decimal_fits n lt = ((n, lt, refl), tt)

hex_fits : (n : ℕ) → n < 2 ^ 64 → AreFields (Hexadecimal ∷ []) (hex n ∷ [])
hex_fits n lt = ((n, lt, refl), tt)

hexes_fit : (count : ℕ) (numbers : List ℕ) → length numbers ≡ count → AllByRecursion (λ n. n < 2 ^ 64) numbers → AreFields (replicate count Hexadecimal) (map hex numbers)
hexes_fit zero numbers same small = tt
hexes_fit (suc count) [] same small = absurd (omega arith)
hexes_fit (suc count) (n ∷ numbers) same small = ((n, small.0, refl), hexes_fit count numbers (omega arith) small.1)

pub fields_fit : (s : Statement) → HasForm s → (length (statement_fields s) ≡ length (forms (kind_of_statement s))) × AreFields (forms (kind_of_statement s)) (statement_fields s)
fields_fit (statement.Version version) has = (refl, decimal_fits version has)
fields_fit (statement.Nodes nodes) has = (refl, decimal_fits nodes has)
fields_fit (statement.Loads loads) has = (refl, decimal_fits loads has)
fields_fit (statement.Image image) has = (refl, ((image.number, has.0, refl), ((image.base, has.1, refl), ((image.size, has.2, refl), ((image.section, has.3, refl), ((image.bytes, has.4, refl), tt))))))
fields_fit (statement.Fixed image) has = (refl, decimal_fits image has)
fields_fit (statement.Snapshot s) has =
    (omega (arith, has.1, length-map s.regs.columns hex), ((s.number, has.0, refl), hexes_fit 17 s.regs.columns has.1 (recursion_from_All (λ n. n < 2 ^ 64) s.regs.columns has.2)))
fields_fit (statement.Memory region) has = (refl, ((region.address, has.0, refl), ((region.bytes, has.1, has.2, refl), tt)))
fields_fit statement.Round has = (refl, tt)
fields_fit statement.Thread has = (refl, tt)
fields_fit (statement.Event (event.Register image)) has = (refl, decimal_fits image has)
fields_fit (statement.Event (event.Deregister base)) has = (refl, hex_fits base has)
fields_fit (statement.Event (event.Replace image)) has = (refl, decimal_fits image has)
fields_fit (statement.Event (event.Load image)) has = (refl, decimal_fits image has)
fields_fit (statement.Event (event.Unload base)) has = (refl, hex_fits base has)
fields_fit (statement.Event (event.Find pc)) has = (refl, hex_fits pc has)
fields_fit (statement.Event (event.Unwind snapshot)) has = (refl, decimal_fits snapshot has)
fields_fit statement.End has = (refl, tt)

-- ---- why fields say nothing

abbrev pub Wrong : List Form → Line → Reason → Type 0
Wrong fs fields reason.Fields = length fields ≢ length fs
Wrong fs fields reason.Spelling = (length fields ≡ length fs) × (AreFields fs fields → ⊥)
Wrong fs fields _ = ⊥

abbrev failed : {A : Type 0} → Reason → Result A Reason
failed why = Err why

err_is : {A : Type 0} (x y : Reason) → failed {A = A} x ≡ failed y → x ≡ y
err_is x y e = cc

bind_err : {A B : Type 0} (r : Result A Reason) (f : A → Result B Reason) (why : Reason) → (r >=> f) ≡ Err why → (r ≡ Err why) ⊎ ((x : A) × (r ≡ Ok x) × (f x ≡ Err why))
bind_err (Ok x) f why e = inr (x, refl, e)
bind_err {A} {B} (Err d) f why e = inl (ap (λ (w : Reason). failed {A = A} w) (err_is {A = B} d why e))

or_err : {A : Type 0} (o : Option A) (d why : Reason) → ok_or o d ≡ Err why → (o ≡ None) × (d ≡ why)
or_err {A} None d why e = (refl, err_is {A = A} d why e)
or_err (Some x) d why e = absurd cc

decimal_none : (field : List ℕ) → decimal_in field ≡ None → IsField Decimal field → ⊥
decimal_none field none (n, lt, is) = never (decimal_in field) none (ap decimal_in is ∙ decimal_again n lt)
  where
    never : (o : Option ℕ) → o ≡ None → o ≡ Some n → ⊥
    never o p q = cc

hex_none : (field : List ℕ) → hex_in field ≡ None → IsField Hexadecimal field → ⊥
hex_none field none (n, lt, is) = never (hex_in field) none (ap hex_in is ∙ hex_again n lt)
  where
    never : (o : Option ℕ) → o ≡ None → o ≡ Some n → ⊥
    never o p q = cc

some_bytes_none : (field : List ℕ) → hex_bytes_in field ≡ None → IsField Bytes field → ⊥
some_bytes_none field none (bytes, are, some, is) = never (hex_bytes_in field) none (ap hex_bytes_in is ∙ some_bytes_again bytes are some)
  where
    never : (o : Option (List ℕ)) → o ≡ None → o ≡ Some bytes → ⊥
    never o p q = cc

bytes_none : (field : List ℕ) → section_bytes field ≡ None → IsField BytesOrDash field → ⊥
bytes_none field none (bytes, are, is) = never (section_bytes field) none (ap section_bytes is ∙ bytes_again bytes are)
  where
    never : (o : Option (List ℕ)) → o ≡ None → o ≡ Some bytes → ⊥
    never o p q = cc

misspelled : (fs : List Form) (fields : Line) (why : Reason) → length fields ≡ length fs → (AreFields fs fields → ⊥) → reason.Spelling ≡ why → Wrong fs fields why
misspelled fs fields why same refute is = subst (Wrong fs fields) is (same, refute)

miscounted : {A : Type 0} (fs : List Form) (fields : Line) (why : Reason) → length fields ≢ length fs → failed {A = A} reason.Fields ≡ Err why → Wrong fs fields why
miscounted {A} fs fields why other is = subst (Wrong fs fields) (err_is {A = A} reason.Fields why is) other

decimal_wrong : (fields : Line) (why : Reason) → one_decimal fields ≡ Err why → Wrong (Decimal ∷ []) fields why
decimal_wrong [] why e = miscounted {A = ℕ} (Decimal ∷ []) [] why (λ same. omega arith) e
decimal_wrong (field ∷ []) why e = let o = or_err (decimal_in field) reason.Spelling why e in misspelled (Decimal ∷ []) (field ∷ []) why refl (λ are. decimal_none field o.0 are.0) o.1
decimal_wrong (field ∷ next ∷ fields) why e = miscounted {A = ℕ} (Decimal ∷ []) (field ∷ next ∷ fields) why (λ same. omega arith) e

hex_wrong : (fields : Line) (why : Reason) → one_hex fields ≡ Err why → Wrong (Hexadecimal ∷ []) fields why
hex_wrong [] why e = miscounted {A = ℕ} (Hexadecimal ∷ []) [] why (λ same. omega arith) e
hex_wrong (field ∷ []) why e = let o = or_err (hex_in field) reason.Spelling why e in misspelled (Hexadecimal ∷ []) (field ∷ []) why refl (λ are. hex_none field o.0 are.0) o.1
hex_wrong (field ∷ next ∷ fields) why e = miscounted {A = ℕ} (Hexadecimal ∷ []) (field ∷ next ∷ fields) why (λ same. omega arith) e

alone_wrong : (made : Statement) (fields : Line) (why : Reason) → fieldless fields made ≡ Err why → Wrong [] fields why
alone_wrong made [] why e = absurd cc
alone_wrong made (field ∷ fields) why e = miscounted {A = Statement} [] (field ∷ fields) why (λ same. omega arith) e

abbrev image_forms : List Form
image_forms = Decimal ∷ Hexadecimal ∷ Hexadecimal ∷ Hexadecimal ∷ BytesOrDash ∷ []

five_wrong : (a b c d x : List ℕ) (why : Reason) → image_fields (a ∷ b ∷ c ∷ d ∷ x ∷ []) ≡ Err why → Wrong image_forms (a ∷ b ∷ c ∷ d ∷ x ∷ []) why
five_wrong a b c d x why e = elim (bind_err (ok_or (decimal_in a) reason.Spelling) _ why e) [
  | inl p ↦ (let o = or_err (decimal_in a) reason.Spelling why p in bad (λ are. decimal_none a o.0 are.0) o.1)
  | inr p ↦ elim (bind_err (ok_or (hex_in b) reason.Spelling) _ why p.2) [
    | inl q ↦ (let o = or_err (hex_in b) reason.Spelling why q in bad (λ are. hex_none b o.0 are.1.0) o.1)
    | inr q ↦ elim (bind_err (ok_or (hex_in c) reason.Spelling) _ why q.2) [
      | inl r ↦ (let o = or_err (hex_in c) reason.Spelling why r in bad (λ are. hex_none c o.0 are.1.1.0) o.1)
      | inr r ↦ elim (bind_err (ok_or (hex_in d) reason.Spelling) _ why r.2) [
        | inl s ↦ (let o = or_err (hex_in d) reason.Spelling why s in bad (λ are. hex_none d o.0 are.1.1.1.0) o.1)
        | inr s ↦ elim (bind_err (ok_or (section_bytes x) reason.Spelling) _ why s.2) [
          | inl t ↦ (let o = or_err (section_bytes x) reason.Spelling why t in bad (λ are. bytes_none x o.0 are.1.1.1.1.0) o.1)
          | inr t ↦ never _ t.2
        ]
      ]
    ]
  ]
]
  where
    bad : (AreFields image_forms (a ∷ b ∷ c ∷ d ∷ x ∷ []) → ⊥) → reason.Spelling ≡ why → Wrong image_forms (a ∷ b ∷ c ∷ d ∷ x ∷ []) why
    bad refute is = misspelled image_forms (a ∷ b ∷ c ∷ d ∷ x ∷ []) why refl refute is

    understood : ImageData → Result ImageData Reason
    understood image = Ok image

    never : (image : ImageData) → Ok image ≡ failed why → Wrong image_forms (a ∷ b ∷ c ∷ d ∷ x ∷ []) why
    never image f = absurd cc

image_wrong : (fields : Line) (why : Reason) → image_fields fields ≡ Err why → Wrong image_forms fields why
image_wrong [] why e = miscounted {A = ImageData} image_forms [] why (λ same. omega arith) e
image_wrong (a ∷ []) why e = miscounted {A = ImageData} image_forms (a ∷ []) why (λ same. omega arith) e
image_wrong (a ∷ b ∷ []) why e = miscounted {A = ImageData} image_forms (a ∷ b ∷ []) why (λ same. omega arith) e
image_wrong (a ∷ b ∷ c ∷ []) why e = miscounted {A = ImageData} image_forms (a ∷ b ∷ c ∷ []) why (λ same. omega arith) e
image_wrong (a ∷ b ∷ c ∷ d ∷ []) why e = miscounted {A = ImageData} image_forms (a ∷ b ∷ c ∷ d ∷ []) why (λ same. omega arith) e
image_wrong (a ∷ b ∷ c ∷ d ∷ x ∷ []) why e = five_wrong a b c d x why e
image_wrong (a ∷ b ∷ c ∷ d ∷ x ∷ y ∷ fields) why e = miscounted {A = ImageData} image_forms (a ∷ b ∷ c ∷ d ∷ x ∷ y ∷ fields) why (λ same. omega arith) e

-- a field that is no number
hexes_none : (count : ℕ) (fields : Line) → length fields ≡ count → all_hex_in fields ≡ None → AreFields (replicate count Hexadecimal) fields → ⊥
hexes_none count [] same none are = absurd cc
hexes_none zero (field ∷ fields) same none are = absurd (omega arith)
hexes_none (suc count) (field ∷ fields) same none are = by (hex_in field) refl (all_hex_in fields) (λ e. hexes_none count fields (omega arith) e are.1) none
  where
    by : (o : Option ℕ) → hex_in field ≡ o → (p : Option (List ℕ)) → (p ≡ None → ⊥) → option_and_then (λ n. option_map (λ ns. n ∷ ns) p) o ≡ None → ⊥
    by None is p more e = hex_none field is are.0
    by (Some n) is None more e = more refl
    by (Some n) is (Some ns) more e = absurd cc

abbrev snapshot_forms : List Form
snapshot_forms = Decimal ∷ replicate 17 Hexadecimal

numbers_wrong : (fields : Line) (why : Reason) → length fields ≡ 18 → numbers_in fields ≡ Err why → Wrong snapshot_forms fields why
numbers_wrong [] why same e = absurd (omega arith)
numbers_wrong (number ∷ columns) why same e = elim (bind_err (ok_or (decimal_in number) reason.Spelling) _ why e) [
  | inl p ↦ (let o = or_err (decimal_in number) reason.Spelling why p in bad (λ are. decimal_none number o.0 are.0) o.1)
  | inr p ↦ elim (bind_err (ok_or (all_hex_in columns) reason.Spelling) _ why p.2) [
    | inl q ↦ (let o = or_err (all_hex_in columns) reason.Spelling why q in bad (λ are. hexes_none 17 columns (omega arith) o.0 are.1) o.1)
    | inr q ↦ never _ q.2
  ]
]
  where
    bad : (AreFields snapshot_forms (number ∷ columns) → ⊥) → reason.Spelling ≡ why → Wrong snapshot_forms (number ∷ columns) why
    bad refute is = misspelled snapshot_forms (number ∷ columns) why same refute is

    never : (snapshot : SnapshotFields) → Ok snapshot ≡ failed {A = SnapshotFields} why → Wrong snapshot_forms (number ∷ columns) why
    never snapshot f = absurd cc

snapshot_wrong : (fields : Line) (why : Reason) → snapshot_fields fields ≡ Err why → Wrong snapshot_forms fields why
snapshot_wrong fields why e = by (eqb (length fields) 18) refl e
  where
    by : (t : Bool) → eqb (length fields) 18 ≡ t → cond t (numbers_in fields) (Err reason.Fields) ≡ Err why → Wrong snapshot_forms fields why
    by true same e = numbers_wrong fields why (eqb-true _ _ same) e
    by false other e = miscounted {A = SnapshotFields} snapshot_forms fields why (eqb-false _ _ other) e

abbrev memory_forms : List Form
memory_forms = Hexadecimal ∷ Bytes ∷ []

two_wrong : (a x : List ℕ) (why : Reason) → memory_fields (a ∷ x ∷ []) ≡ Err why → Wrong memory_forms (a ∷ x ∷ []) why
two_wrong a x why e = elim (bind_err (ok_or (hex_in a) reason.Spelling) _ why e) [
  | inl p ↦ (let o = or_err (hex_in a) reason.Spelling why p in bad (λ are. hex_none a o.0 are.0) o.1)
  | inr p ↦ elim (bind_err (ok_or (hex_bytes_in x) reason.Spelling) _ why p.2) [
    | inl q ↦ (let o = or_err (hex_bytes_in x) reason.Spelling why q in bad (λ are. some_bytes_none x o.0 are.1.0) o.1)
    | inr q ↦ never _ q.2
  ]
]
  where
    bad : (AreFields memory_forms (a ∷ x ∷ []) → ⊥) → reason.Spelling ≡ why → Wrong memory_forms (a ∷ x ∷ []) why
    bad refute is = misspelled memory_forms (a ∷ x ∷ []) why refl refute is

    never : (region : RegionData) → Ok region ≡ failed {A = RegionData} why → Wrong memory_forms (a ∷ x ∷ []) why
    never region f = absurd cc

memory_wrong : (fields : Line) (why : Reason) → memory_fields fields ≡ Err why → Wrong memory_forms fields why
memory_wrong [] why e = miscounted {A = RegionData} memory_forms [] why (λ same. omega arith) e
memory_wrong (a ∷ []) why e = miscounted {A = RegionData} memory_forms (a ∷ []) why (λ same. omega arith) e
memory_wrong (a ∷ x ∷ []) why e = two_wrong a x why e
memory_wrong (a ∷ x ∷ y ∷ fields) why e = miscounted {A = RegionData} memory_forms (a ∷ x ∷ y ∷ fields) why (λ same. omega arith) e

-- the reading of a number, where what it makes can't be refused
make_err : {A : Type 0} (r : Result A Reason) (make : A → Statement) (why : Reason) → (r >=> λ x. said (make x)) ≡ Err why → r ≡ Err why
make_err (Ok x) make why e = absurd cc
make_err {A} (Err d) make why e = ap (λ (w : Reason). failed {A = A} w) (err_is {A = Statement} d why e)

pub unspoken : (k : Kind) (fields : Line) (why : Reason) → statement_of k fields ≡ Err why → Wrong (forms k) fields why
unfolding statement_of
unspoken kind.Version fields why e = decimal_wrong fields why (make_err (one_decimal fields) statement.Version why e)
unspoken kind.Nodes fields why e = decimal_wrong fields why (make_err (one_decimal fields) statement.Nodes why e)
unspoken kind.Loads fields why e = decimal_wrong fields why (make_err (one_decimal fields) statement.Loads why e)
unspoken kind.Image fields why e = image_wrong fields why (make_err (image_fields fields) statement.Image why e)
unspoken kind.Fixed fields why e = decimal_wrong fields why (make_err (one_decimal fields) statement.Fixed why e)
unspoken kind.Snapshot fields why e = snapshot_wrong fields why (make_err (snapshot_fields fields) statement.Snapshot why e)
unspoken kind.Memory fields why e = memory_wrong fields why (make_err (memory_fields fields) statement.Memory why e)
unspoken kind.Round fields why e = alone_wrong statement.Round fields why e
unspoken kind.Thread fields why e = alone_wrong statement.Thread fields why e
unspoken kind.Register fields why e = decimal_wrong fields why (make_err (one_decimal fields) (λ n. statement.Event (event.Register n)) why e)
unspoken kind.Deregister fields why e = hex_wrong fields why (make_err (one_hex fields) (λ n. statement.Event (event.Deregister n)) why e)
unspoken kind.Replace fields why e = decimal_wrong fields why (make_err (one_decimal fields) (λ n. statement.Event (event.Replace n)) why e)
unspoken kind.Load fields why e = decimal_wrong fields why (make_err (one_decimal fields) (λ n. statement.Event (event.Load n)) why e)
unspoken kind.Unload fields why e = hex_wrong fields why (make_err (one_hex fields) (λ n. statement.Event (event.Unload n)) why e)
unspoken kind.Find fields why e = hex_wrong fields why (make_err (one_hex fields) (λ n. statement.Event (event.Find n)) why e)
unspoken kind.Unwind fields why e = decimal_wrong fields why (make_err (one_decimal fields) (λ n. statement.Event (event.Unwind n)) why e)
unspoken kind.End fields why e = alone_wrong statement.End fields why e

-- ---- one line says one thing

pub same_kind : (a b : Kind) (xs ys : Line) → word_of a ∷ xs ≡ word_of b ∷ ys → (a ≡ b) × (xs ≡ ys)
same_kind a b xs ys e = (kind_is a b (let words : word_of a ≡ word_of b = cc in words), cc)
  where
    kind_some : (x y : Kind) → Some x ≡ Some y → x ≡ y
    kind_some x y e = cc

    kind_is : (a b : Kind) → word_of a ≡ word_of b → a ≡ b
    kind_is a b e = kind_some a b (sym (word_again a) ∙ ap kind_of e ∙ word_again b)

pub says_one : (text : LineText) (s t : Statement) → Says text s → Says text t → s ≡ t
says_one text s t p q =
    let e = same_kind (kind_of_statement s) (kind_of_statement t) (statement_fields s) (statement_fields t) (sym p.line ∙ q.line) in
    same s t (sym (said_again s p.form)
    ∙ ap (λ (k : Kind). statement_of k (statement_fields s)) e.0 ∙ ap (statement_of (kind_of_statement t)) e.1
    ∙ said_again t q.form)
  where
    same : (x y : Statement) → said x ≡ said y → x ≡ y
    same x y e = cc

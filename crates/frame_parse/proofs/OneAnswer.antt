-- Every list of bytes has one list of records or one first refusal, never both: both are what reading
-- the records in turn gives.
use Rattle.std.proofs.Common.{◌≡◌, ℕ, zero, suc, ◌+◌, ◌<◌, ◌≤◌, ◌⊎◌, List, [], ◌∷◌, ◌++◌, length, Bool, true, false, cond, Result, Ok, Err, nat_eq, refl, sym, ap, subst, ◌∙◌, append_assoc, length-append, arith, inl, inr}
use Rattle.std.specs.Prelude.{nat_le, ◌||◌, ◌&&◌}
use Rattle.std.proofs.lemmas.Bool.{eqb-true, ne_eqb, le-leb}
use Rattle.std.proofs.lemmas.List.{append-nil}
use Rattle.byteorder.specs.Endian.{little_number}
use Rattle.byteorder.specs.Numbers.{little_from-append}
use Rattle.eh_bytes.specs.CursorData.{CursorData}
use Rattle.eh_bytes.specs.Results.{◌and_then◌}
use Rattle.frame_parse.specs.declared.fault.FrameFault.{FrameFault}
use Rattle.frame_parse.specs.declared.records.CieRecord.{CieRecord}
use Rattle.frame_parse.specs.Entries.{FdeRecord, Record, Cie, Fde}
use Rattle.frame_parse.specs.Records.{content, record_length, record_at, whole_record}
use Rattle.frame_parse.specs.Sections.{is_end, with_record, AreRecords, cies_of, IsSection, IsRefused, HasOneAnswer, HasFdes}
use Rattle.frame_parse.specs.Reading.{read_all, section_of, IsAnswered}
use Rattle.eh_bytes.proofs.Exact.{left, Takes}
use Rattle.eh_bytes.proofs.Results.{ok_is, err_is}
use Rattle.frame_parse.proofs.RecordWholes.{whole_record_exact}

-- ---- a record has bytes, and is not the end

pub grows : (a b c : List ℕ) → a ≡ b ++ c → length b ≤ length a
grows a b c e = omega (arith, ap length e, length-append b c)

pub behind : (a b c : List ℕ) → a ≡ b ++ c → length c ≤ length a
behind a b c e = omega (arith, ap length e, length-append b c)

-- a record has at least the four bytes of its length
pub record_grows : (section p : ℕ) (earlier : List CieRecord) (front : List ℕ) (r : Record) → (whole_record section earlier).Spells p front r → 4 ≤ length front
unfolding whole_record record_at record_length
record_grows section p earlier front r s =
    let inner = s.5 in
    let sized = inner.4 in
    let four : length sized.1 ≡ 4 = sized.4.0 in
    omega (arith, four, grows inner.1 sized.1 sized.2 sized.3, grows s.2 inner.1 inner.2 inner.3, behind front s.1 s.2 s.3)

-- what is after a length holds at least an id
content_grows : (section p : ℕ) (earlier : List CieRecord) (start end : ℕ) (front : List ℕ) (r : Record) → (content section earlier start end).Spells p front r → 4 ≤ length front
unfolding content
content_grows section p earlier start end front r s =
    let id = s.5 in
    omega (arith, id.4.0, grows s.2 id.1 id.2 id.3, behind front s.1 s.2 s.3)

-- the length of a record is not 0
length_above : (section p : ℕ) (earlier : List CieRecord) (front : List ℕ) (r : Record) → (s : (whole_record section earlier).Spells p front r)
    → (n : ℕ) × (text : List ℕ) × (more : List ℕ) × (front ≡ text ++ more) × (length text ≡ 4) × (little_number 4 text ≡ n) × (0 < n)
unfolding whole_record record_at record_length
length_above section p earlier front r s =
    let inner = s.5 in
    let sized = inner.4 in
    let body = inner.5.5 in
    let held = content_grows section _ earlier s.0 _ inner.5.2 r body.1 in
    let size : 4 ≤ inner.0 = omega (arith, held, body.0) in
    let above : 0 < sized.0 =
    elim sized.5 [
      | inl long ↦ omega (arith, eqb-true sized.0 4294967295 long.0)
      | inr plain ↦ omega (arith, plain.1.1)
    ] in
    let regrouped : front ≡ sized.1 ++ (sized.2 ++ inner.2) =
    s.3 ∙ ap (λ (l : List ℕ). l ++ s.2) s.4.0 ∙ inner.3 ∙ ap (λ (l : List ℕ). l ++ inner.2) sized.3 ∙ append_assoc sized.1 sized.2 inner.2 in
    (sized.0, sized.1, sized.2 ++ inner.2, regrouped, sized.4.0, sized.4.1, above)

end_test : (size : ℕ) (number : ℕ) → 4 ≤ size → 0 < number → (nat_eq size 0 || (nat_le 4 size && nat_eq number 0)) ≡ false
end_test size number long above =
    let some : nat_eq size 0 ≡ false = ne_eqb size 0 (λ e. absurd (omega arith)) in
    let four : nat_le 4 size ≡ true = le-leb _ _ long in
    let other : nat_eq number 0 ≡ false = ne_eqb number 0 (λ e. absurd (omega arith)) in
    rw (some, four, other) refl

pub not_end : (section p : ℕ) (earlier : List CieRecord) (front back : List ℕ) (r : Record) → (whole_record section earlier).Spells p front r → is_end (front ++ back) ≡ false
not_end section p earlier front back r s =
    let a = length_above section p earlier front r s in
    let whole : front ++ back ≡ a.1 ++ (a.2 ++ back) = ap (λ (l : List ℕ). l ++ back) a.3 ∙ append_assoc a.1 a.2 back in
    let number : little_number 4 (front ++ back) ≡ a.0 = ap (little_number 4) whole ∙ little_from-append 4 a.1 (a.2 ++ back) (omega (arith, a.4)) ∙ a.5 in
    let long : 4 ≤ length (front ++ back) = omega (arith, record_grows section p earlier front r s, length-append front back) in
    end_test (length (front ++ back)) (little_number 4 (front ++ back)) long (omega (arith, number, a.6))

-- ---- reading the records in turn

-- records and their end are what reading gives
section_read : (n section p : ℕ) (earlier : List CieRecord) (rs : List Record) (front back : List ℕ) → length (front ++ back) < n → AreRecords section p earlier front rs → is_end back ≡ true
    → read_all n section earlier (left p (front ++ back)) ≡ Ok rs
unfolding read_all
section_read zero section p earlier rs front back lt s done = absurd (omega arith)
section_read (suc n) section p earlier [] front back lt s done =
    let whole : front ++ back ≡ back = ap (λ (l : List ℕ). l ++ back) s in
    let ended : is_end (front ++ back) ≡ true = ap is_end whole ∙ done in
    rw ended refl
section_read (suc n) section p earlier (r ∷ rs) front back lt s done =
    let regrouped : front ++ back ≡ s.0 ++ (s.1 ++ back) = ap (λ (l : List ℕ). l ++ back) s.2 ∙ append_assoc s.0 s.1 back in
    let on : is_end (s.0 ++ (s.1 ++ back)) ≡ false = not_end section p earlier s.0 (s.1 ++ back) r s.3 in
    let first = (whole_record_exact section earlier).again p s.0 (s.1 ++ back) r s.3 in
    let grown = record_grows section p earlier s.0 r s.3 in
    let later = section_read n section (p + length s.0) (with_record earlier r) rs s.1 back (omega (arith, grown, ap length regrouped, length-append s.0 (s.1 ++ back))) s.4 done in
    ap (λ (l : List ℕ). read_all (suc n) section earlier (left p l)) regrouped ∙ rw (on, first, later) refl

-- the CIEs with one record more
pub cies-step : (earlier : List CieRecord) (r : Record) (rs : List Record) → earlier ++ cies_of (r ∷ rs) ≡ with_record earlier r ++ cies_of rs
cies-step earlier (Cie c) rs = sym (append_assoc earlier (c ∷ []) (cies_of rs))
cies-step earlier (Fde f) rs = refl

-- a refusal after records is what reading gives
refused_read : (n section p : ℕ) (earlier : List CieRecord) (rs : List Record) (front back : List ℕ) (f : FrameFault) → length (front ++ back) < n → AreRecords section p earlier front rs
    → is_end back ≡ false → (whole_record section (earlier ++ cies_of rs)).Refuses (p + length front) back f → read_all n section earlier (left p (front ++ back)) ≡ Err f
unfolding read_all
refused_read zero section p earlier rs front back f lt s on refusal = absurd (omega arith)
refused_read (suc n) section p earlier [] front back f lt s on refusal =
    let whole : front ++ back ≡ back = ap (λ (l : List ℕ). l ++ back) s in
    let place : p + length front ≡ p = omega (arith, ap length s) in
    let here : (whole_record section earlier).Refuses p back f =
    subst (λ (q : ℕ). (whole_record section earlier).Refuses q back f) place
    (subst (λ (cs : List CieRecord). (whole_record section cs).Refuses (p + length front) back f) (append-nil earlier) refusal) in
    let stopped = (whole_record_exact section earlier).refused p back f here in
    ap (λ (l : List ℕ). read_all (suc n) section earlier (left p l)) whole ∙ rw (on, stopped) refl
refused_read (suc n) section p earlier (r ∷ rs) front back f lt s on refusal =
    let regrouped : front ++ back ≡ s.0 ++ (s.1 ++ back) = ap (λ (l : List ℕ). l ++ back) s.2 ∙ append_assoc s.0 s.1 back in
    let more : is_end (s.0 ++ (s.1 ++ back)) ≡ false = not_end section p earlier s.0 (s.1 ++ back) r s.3 in
    let first = (whole_record_exact section earlier).again p s.0 (s.1 ++ back) r s.3 in
    let grown = record_grows section p earlier s.0 r s.3 in
    let place : p + length front ≡ p + length s.0 + length s.1 = omega (arith, ap length s.2, length-append s.0 s.1) in
    let there : (whole_record section (with_record earlier r ++ cies_of rs)).Refuses (p + length s.0 + length s.1) back f =
    subst (λ (q : ℕ). (whole_record section (with_record earlier r ++ cies_of rs)).Refuses q back f) place
    (subst (λ (cs : List CieRecord). (whole_record section cs).Refuses (p + length front) back f) (cies-step earlier r rs) refusal) in
    let later = refused_read n section (p + length s.0) (with_record earlier r) rs s.1 back f (omega (arith, grown, ap length regrouped, length-append s.0 (s.1 ++ back))) s.4 on there in
    ap (λ (l : List ℕ). read_all (suc n) section earlier (left p l)) regrouped ∙ rw (more, first, later) refl

-- what reading gives are records and their end, or a refusal after records
abbrev EndsAt : ℕ → List CieRecord → CursorData → List Record → Type 0
EndsAt section earlier r rs = (front : List ℕ) × (back : List ℕ) × (r.bytes ≡ front ++ back) × AreRecords section r.at earlier front rs × (is_end back ≡ true)

abbrev StopsAt : ℕ → List CieRecord → CursorData → FrameFault → Type 0
StopsAt section earlier r f = (rs : List Record) × (front : List ℕ) × (back : List ℕ) × (r.bytes ≡ front ++ back) × AreRecords section r.at earlier front rs × (is_end back ≡ false)
    × (whole_record section (earlier ++ cies_of rs)).Refuses (r.at + length front) back f

EndsAt-more : (section : ℕ) (earlier : List CieRecord) (r : CursorData) (x : Record) (mid : CursorData) (rs : List Record) → Takes (whole_record section earlier) r x mid
    → EndsAt section (with_record earlier x) mid rs → EndsAt section earlier r (x ∷ rs)
EndsAt-more section earlier r x mid rs t s =
    let whole : r.bytes ≡ (t.front ++ s.0) ++ s.1 = t.parts ∙ ap (λ (l : List ℕ). t.front ++ l) s.2 ∙ sym (append_assoc t.front s.0 s.1) in
    (t.front ++ s.0, s.1, whole, (t.front, s.0, refl, t.spells, subst (λ (p : ℕ). AreRecords section p (with_record earlier x) s.0 rs) t.place s.3), s.4)

StopsAt-more : (section : ℕ) (earlier : List CieRecord) (r : CursorData) (x : Record) (mid : CursorData) (f : FrameFault) → Takes (whole_record section earlier) r x mid
    → StopsAt section (with_record earlier x) mid f → StopsAt section earlier r f
StopsAt-more section earlier r x mid f t s =
    let whole : r.bytes ≡ (t.front ++ s.1) ++ s.2 = t.parts ∙ ap (λ (l : List ℕ). t.front ++ l) s.3 ∙ sym (append_assoc t.front s.1 s.2) in
    let place : mid.at + length s.1 ≡ r.at + length (t.front ++ s.1) = omega (arith, t.place, length-append t.front s.1) in
    let there : (whole_record section (earlier ++ cies_of (x ∷ s.0))).Refuses (r.at + length (t.front ++ s.1)) s.2 f =
    subst (λ (q : ℕ). (whole_record section (earlier ++ cies_of (x ∷ s.0))).Refuses q s.2 f) place
    (subst (λ (cs : List CieRecord). (whole_record section cs).Refuses (mid.at + length s.1) s.2 f) (sym (cies-step earlier x s.0)) s.6) in
    (x ∷ s.0, t.front ++ s.1, s.2, whole, (t.front, s.1, refl, t.spells, subst (λ (p : ℕ). AreRecords section p (with_record earlier x) s.1 s.0) t.place s.4), s.5, there)

abbrev Outcome : ℕ → List CieRecord → CursorData → Result (List Record) FrameFault → Type 0
Outcome section earlier r (Ok rs) = EndsAt section earlier r rs
Outcome section earlier r (Err f) = StopsAt section earlier r f

outcome_of_next : (section : ℕ) (earlier : List CieRecord) (r : CursorData) (x : Record) (mid : CursorData) (m : Result (List Record) FrameFault) → Takes (whole_record section earlier) r x mid
    → Outcome section (with_record earlier x) mid m → Outcome section earlier r (◌and_then◌ m (λ rs. Ok (x ∷ rs)))
outcome_of_next section earlier r x mid (Ok rs) t s = EndsAt-more section earlier r x mid rs t s
outcome_of_next section earlier r x mid (Err f) t s = StopsAt-more section earlier r x mid f t s

outcome_of_record : (n section : ℕ) (earlier : List CieRecord) (r : CursorData) (m : Result (Record × CursorData) FrameFault) → (whole_record section earlier).read r ≡ m → is_end r.bytes ≡ false → length r.bytes < suc n
    → ((x : Record) (mid : CursorData) → length mid.bytes < n → Outcome section (with_record earlier x) mid (read_all n section (with_record earlier x) mid))
    → Outcome section earlier r (◌and_then◌ m (λ x. ◌and_then◌ (read_all n section (with_record earlier x.0) x.1) (λ rs. Ok (x.0 ∷ rs))))
outcome_of_record n section earlier r (Ok x) e on lt more =
    let t = (whole_record_exact section earlier).takes r x.0 x.1 e in
    let grown = record_grows section r.at earlier t.front x.0 t.spells in
    outcome_of_next section earlier r x.0 x.1 (read_all n section (with_record earlier x.0) x.1) t (more x.0 x.1 (omega (arith, grown, ap length t.parts, length-append t.front x.1.bytes)))
outcome_of_record n section earlier r (Err f) e on lt more =
    let refusal = (whole_record_exact section earlier).refuses r f e in
    let here : (whole_record section (earlier ++ [])).Refuses (r.at + 0) r.bytes f =
    subst (λ (q : ℕ). (whole_record section (earlier ++ [])).Refuses q r.bytes f) (let same : r.at ≡ r.at + 0 = omega arith in same)
    (subst (λ (cs : List CieRecord). (whole_record section cs).Refuses r.at r.bytes f) (sym (append-nil earlier)) refusal) in
    ([], [], r.bytes, refl, refl, on, here)

outcome_of_end : (n section : ℕ) (earlier : List CieRecord) (r : CursorData) (b : Bool) → is_end r.bytes ≡ b → length r.bytes < suc n
    → ((x : Record) (mid : CursorData) → length mid.bytes < n → Outcome section (with_record earlier x) mid (read_all n section (with_record earlier x) mid))
    → Outcome section earlier r (cond b (Ok []) (◌and_then◌ ((whole_record section earlier).read r) (λ x. ◌and_then◌ (read_all n section (with_record earlier x.0) x.1) (λ rs. Ok (x.0 ∷ rs)))))
outcome_of_end n section earlier r true e lt more = ([], r.bytes, refl, refl, e)
outcome_of_end n section earlier r false e lt more = outcome_of_record n section earlier r ((whole_record section earlier).read r) refl e lt more

read_outcome : (n section : ℕ) (earlier : List CieRecord) (r : CursorData) → length r.bytes < n → Outcome section earlier r (read_all n section earlier r)
unfolding read_all
read_outcome zero section earlier r lt = absurd (omega arith)
read_outcome (suc n) section earlier r lt =
    outcome_of_end n section earlier r (is_end r.bytes) refl lt (λ x mid h. read_outcome n section (with_record earlier x) mid h)

-- ---- the law

section_is_read : (section : ℕ) (bytes : List ℕ) (rs : List Record) → IsSection section bytes rs → read_all (suc (length bytes)) section [] (left 0 bytes) ≡ Ok rs
unfolding IsSection
section_is_read section bytes rs s =
    ap (λ (l : List ℕ). read_all (suc (length bytes)) section [] (left 0 l)) s.2 ∙ section_read (suc (length bytes)) section 0 [] rs s.0 s.1 (omega (arith, ap length s.2)) s.3 s.4

refusal_is_read : (section : ℕ) (bytes : List ℕ) (f : FrameFault) → IsRefused section bytes f → read_all (suc (length bytes)) section [] (left 0 bytes) ≡ Err f
unfolding IsRefused
refusal_is_read section bytes f s =
    let there : (whole_record section (cies_of s.0)).Refuses (0 + length s.1) s.2 f =
    subst (λ (q : ℕ). (whole_record section (cies_of s.0)).Refuses q s.2 f) (let same : length s.1 ≡ 0 + length s.1 = omega arith in same) s.6 in
    ap (λ (l : List ℕ). read_all (suc (length bytes)) section [] (left 0 l)) s.3 ∙ refused_read (suc (length bytes)) section 0 [] s.0 s.1 s.2 f (omega (arith, ap length s.3)) s.4 s.5 there

stops_refused : (section : ℕ) (bytes : List ℕ) (f : FrameFault) → StopsAt section [] (left 0 bytes) f → IsRefused section bytes f
unfolding IsRefused
stops_refused section bytes f s =
    let there : (whole_record section (cies_of s.0)).Refuses (length s.1) s.2 f =
    subst (λ (q : ℕ). (whole_record section (cies_of s.0)).Refuses q s.2 f) (let same : 0 + length s.1 ≡ length s.1 = omega arith in same) s.6 in
    (s.0, s.1, s.2, s.3, s.4, s.5, there)

ends_section : (section : ℕ) (bytes : List ℕ) (rs : List Record) → EndsAt section [] (left 0 bytes) rs → IsSection section bytes rs
unfolding IsSection
ends_section section bytes rs s = s

some_answer : (section : ℕ) (bytes : List ℕ) (m : Result (List Record) FrameFault) → Outcome section [] (left 0 bytes) m
    → ((rs : List Record) × IsSection section bytes rs) ⊎ ((f : FrameFault) × IsRefused section bytes f)
some_answer section bytes (Ok rs) s = inl (rs, ends_section section bytes rs s)
some_answer section bytes (Err f) s = inr (f, stops_refused section bytes f s)

pub one_answer : (section : ℕ) (bytes : List ℕ) → HasOneAnswer section bytes
one_answer section bytes = record {
  some = some_answer section bytes (read_all (suc (length bytes)) section [] (left 0 bytes)) (read_outcome (suc (length bytes)) section [] (left 0 bytes) (omega arith));
  one_list = λ rs others s t. ok_is {F = FrameFault} rs others (sym (section_is_read section bytes rs s) ∙ section_is_read section bytes others t);
  one_fault = λ f other s t. err_is {A = List Record} f other (sym (refusal_is_read section bytes f s) ∙ refusal_is_read section bytes other t);
  not_both = λ rs f s t. let both = sym (section_is_read section bytes rs s) ∙ refusal_is_read section bytes f t in cc;
}

of_section : (address : ℕ) (bytes : List ℕ) (fdes : List FdeRecord) (s : HasFdes address bytes fdes) → section_of address bytes ≡ Ok (record { address = address; bytes = bytes; fdes = fdes })
unfolding section_of HasFdes
of_section address bytes fdes s =
    let read = section_is_read address bytes s.0 s.1 in
    rw (read, s.2) refl

of_refusal : (address : ℕ) (bytes : List ℕ) (f : FrameFault) → IsRefused address bytes f → section_of address bytes ≡ Err f
unfolding section_of
of_refusal address bytes f s =
    let read = refusal_is_read address bytes f s in
    rw read refl

pub answered : (address : ℕ) (bytes : List ℕ) → IsAnswered address bytes
answered address bytes = record { contents = of_section address bytes; refusal = of_refusal address bytes }

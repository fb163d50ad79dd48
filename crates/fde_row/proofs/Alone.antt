-- A record of a section is read alone as it is read there: of a CIE the earlier ones don't matter, of an FDE its own alone.
use Rattle.std.proofs.Common.{◌≡◌, ℕ, ◌+◌, ◌-◌, List, [], ◌∷◌, ◌++◌, length, drop, Bool, true, false, cond, Option, Some, None, Ok, nat_lt, nat_eq, refl, sym, ap, subst, ◌∙◌, append_assoc, length-append, arith, inl, inr}
use Rattle.std.specs.List.{All}
use Rattle.std.proofs.lemmas.List.Elements.{All-nil, All-cons, All-tail, All-append}
use Rattle.std.proofs.Math.Seq.{drop-append_seam}
use Rattle.eh_bytes.specs.CursorData.{CursorData}
use Rattle.eh_bytes.specs.Grammar.{found}
use Rattle.frame_parse.specs.declared.fault.RecordFault.{RecordFault}
use Rattle.frame_parse.specs.declared.fault.RecordFault.TheVariants.{NoCie}
use Rattle.frame_parse.specs.declared.records.CieRecord.{CieRecord}
use Rattle.frame_parse.specs.Entries.{FdeRecord, Record, Cie, Fde}
use Rattle.frame_parse.specs.Keeping.{record_start}
use Rattle.frame_parse.specs.Records.{fde, cie_from, cie_after, content, record_at, whole_record}
use Rattle.frame_parse.specs.Sections.{AreRecords, with_record, fdes_of, IsSection, HasFdes}
use Rattle.frame_parse.proofs.RecordWholes.{whole_record_exact}
use Rattle.frame_parse.proofs.Places.{record_stands}
use Rattle.fde_row.proofs.Standing.{cie_read, fde_read}
use Rattle.fde_row.specs.Reading.{from_place, cie_at, fde_by, lone_fde, AreReadAlone}

-- ---- the CIE that was found

spells_found : (o : Option CieRecord) (f : RecordFault) (p : ℕ) (text : List ℕ) (c : CieRecord) → text ≡ [] → o ≡ Some c → (found o f).Spells p text c
spells_found None f p text c none is = absurd cc
spells_found (Some d) f p text c none is = (none, let same : d ≡ c = cc in same)

-- the same one is found elsewhere
found_again : (P : CieRecord → Type 0) (o other : Option CieRecord) (f : RecordFault) (p : ℕ) (text : List ℕ) (c : CieRecord) → (o ≡ Some c → P c × (other ≡ Some c)) → (found o f).Spells p text c → P c × (found other f).Spells p text c
found_again P None other f p text c again a = absurd a
found_again P (Some d) other f p text c again a =
    let both = again (ap (λ (k : CieRecord). Some k) a.1) in
    (both.0, spells_found other f p text c a.0 both.1)

-- it begins at the place, and what holds of all holds of it
chosen : (P : CieRecord → Type 0) (b : Bool) (d c : CieRecord) (place : ℕ) (o : Option CieRecord) → nat_eq d.start place ≡ b → P d → (o ≡ Some c → P c × (nat_eq c.start place ≡ true)) → cond b (Some d) o ≡ Some c
    → P c × (nat_eq c.start place ≡ true)
chosen P true d c place o is here more e = subst (λ (k : CieRecord). P k × (nat_eq k.start place ≡ true)) (let same : d ≡ c = cc in same) (here, is)
chosen P false d c place o is here more e = more e

cie_from-is : (P : CieRecord → Type 0) (cs : List CieRecord) (place : ℕ) (c : CieRecord) → All P cs → cie_from cs place ≡ Some c → P c × (nat_eq c.start place ≡ true)
cie_from-is P [] place c all e = absurd cc
cie_from-is P (d ∷ cs) place c all e = chosen P (nat_eq d.start place) d c place (cie_from cs place) refl (all 0 d (omega arith)) (cie_from-is P cs place c (All-tail P d cs all)) e

one_from : (c : CieRecord) (place : ℕ) → nat_eq c.start place ≡ true → cie_from (c ∷ []) place ≡ Some c
one_from c place is = rw is refl

after_is : (P : CieRecord → Type 0) (b : Bool) (cs : List CieRecord) (place : ℕ) (c : CieRecord) → All P cs → cond b None (cie_from cs place) ≡ Some c → P c × (cond b None (cie_from (c ∷ []) place) ≡ Some c)
after_is P true cs place c all e = absurd cc
after_is P false cs place c all e =
    let is = cie_from-is P cs place c all e in
    (is.0, one_from c place is.1)

-- ---- what stands after the length

content_cie : (section p : ℕ) (earlier : List CieRecord) (start end : ℕ) (text : List ℕ) (c : CieRecord) → (content section earlier start end).Spells p text (Cie c) → (content section [] start end).Spells p text (Cie c)
unfolding content
content_cie section p earlier start end text c s =
    let id = s.5 in
    elim id.5 [
      | inl w ↦ (s.0, s.1, s.2, s.3, s.4, (id.0, id.1, id.2, id.3, id.4, inl w))
      | inr w ↦ absurd (let never = w.1.5.5.5.1 in cc)
    ]

-- an FDE, what holds of its CIE, and the same by that alone
abbrev IsAlone : (CieRecord → Type 0) → (List CieRecord → Type 0) → FdeRecord → Type 0
IsAlone P Spelled f = P f.cie × Spelled (f.cie ∷ [])

fde_cie : (section start end p : ℕ) (c : CieRecord) (front : List ℕ) (f : FdeRecord) → (fde section start end c).Spells p front f → f.cie ≡ c
unfolding fde
fde_cie section start end p c front f s = sym (ap (λ (k : FdeRecord). k.cie) s.5.5.5.5.1)

content_fde : (P : CieRecord → Type 0) (section p : ℕ) (earlier : List CieRecord) (start end : ℕ) (text : List ℕ) (f : FdeRecord) → All P earlier → (content section earlier start end).Spells p text (Fde f)
    → IsAlone P (λ (cs : List CieRecord). (content section cs start end).Spells p text (Fde f)) f
unfolding content
content_fde P section p earlier start end text f all s =
    let id = s.5 in
    elim id.5 [
      | inl w ↦ absurd (let never = w.1.5.5.1 in cc)
      | inr w ↦
          let u = w.1 in
          let v = u.5 in
          let same : v.0 ≡ f = let made = v.5.5.1 in cc in
          let is = found_again P (cie_after earlier s.0 id.0) (cie_after (u.0 ∷ []) s.0 id.0) (NoCie s.0) (p + length s.1 + length id.1) u.1 u.0 (after_is P (nat_lt s.0 id.0) earlier (s.0 - id.0) u.0 all) u.4 in
          let spelled : (content section (u.0 ∷ []) start end).Spells p text (Fde f) = (s.0, s.1, s.2, s.3, s.4, (id.0, id.1, id.2, id.3, id.4, inr (w.0, (u.0, u.1, u.2, u.3, is.1, u.5)))) in
          let cie : u.0 ≡ f.cie = sym (fde_cie section start end _ u.0 v.1 v.0 v.4) ∙ ap (λ (k : FdeRecord). k.cie) same in
          subst (λ (k : CieRecord). P k × (content section (k ∷ []) start end).Spells p text (Fde f)) cie (is.0, spelled)
    ]

-- ---- whole records

whole_cie : (section p : ℕ) (earlier : List CieRecord) (front : List ℕ) (c : CieRecord) → (whole_record section earlier).Spells p front (Cie c) → (whole_record section []).Spells p front (Cie c)
unfolding whole_record record_at
whole_cie section p earlier front c s =
    let inner = s.5 in
    let held = inner.5 in
    let alone = content_cie section _ earlier s.0 (held.0 + inner.0) held.2 c held.5.1 in
    (s.0, s.1, s.2, s.3, s.4, (inner.0, inner.1, inner.2, inner.3, inner.4, (held.0, held.1, held.2, held.3, held.4, (held.5.0, alone))))

whole_fde : (P : CieRecord → Type 0) (section p : ℕ) (earlier : List CieRecord) (front : List ℕ) (f : FdeRecord) → All P earlier → (whole_record section earlier).Spells p front (Fde f)
    → IsAlone P (λ (cs : List CieRecord). (whole_record section cs).Spells p front (Fde f)) f
unfolding whole_record record_at
whole_fde P section p earlier front f all s =
    let inner = s.5 in
    let held = inner.5 in
    let alone = content_fde P section _ earlier s.0 (held.0 + inner.0) held.2 f all held.5.1 in
    (alone.0, (s.0, s.1, s.2, s.3, s.4, (inner.0, inner.1, inner.2, inner.3, inner.4, (held.0, held.1, held.2, held.3, held.4, (held.5.0, alone.1)))))

-- ---- read where they stand

-- what stands at a place
stands : (bytes before front after : List ℕ) (p : ℕ) → bytes ≡ before ++ (front ++ after) → p ≡ length before → from_place bytes p ≡ record { bytes = front ++ after; at = p }
stands bytes before front after p whole place =
    ap (λ (l : List ℕ). record { bytes = l; at = p }) (ap (λ (l : List ℕ). drop p l) whole ∙ ap (λ (q : ℕ). drop q (before ++ (front ++ after))) place ∙ drop-append_seam before (front ++ after))

reads : (section : ℕ) (cs : List CieRecord) (bytes before front after : List ℕ) (p : ℕ) (r : Record) → bytes ≡ before ++ (front ++ after) → p ≡ length before → (whole_record section cs).Spells p front r
    → (whole_record section cs).read (from_place bytes p) ≡ Ok (r, record { bytes = after; at = p + length front })
reads section cs bytes before front after p r whole place s =
    ap (λ (c : CursorData). (whole_record section cs).read c) (stands bytes before front after p whole place) ∙ (whole_record_exact section cs).again p front after r s

-- a record begins where it is read
begins : (section : ℕ) (cs : List CieRecord) (bytes before front after : List ℕ) (p : ℕ) (r : Record) → bytes ≡ before ++ (front ++ after) → p ≡ length before → (whole_record section cs).Spells p front r → record_start r ≡ p
begins section cs bytes before front after p r whole place s =
    (record_stands section cs (from_place bytes p) r (record { bytes = after; at = p + length front }) (reads section cs bytes before front after p r whole place s)).begins

abbrev IsCieRead : ℕ → List ℕ → CieRecord → Type 0
IsCieRead section bytes c = cie_at section bytes c.start ≡ Ok c

abbrev IsFdeRead : ℕ → List ℕ → FdeRecord → Type 0
IsFdeRead section bytes f = lone_fde section bytes f.cie.start f.start ≡ Ok f

lone_fde-reads : (section : ℕ) (bytes : List ℕ) (c : CieRecord) (at p : ℕ) (f : FdeRecord) → cie_at section bytes at ≡ Ok c → fde_by section bytes c p ≡ Ok f → lone_fde section bytes at p ≡ Ok f
unfolding lone_fde
lone_fde-reads section bytes c at p f cie own = rw cie own

cie_alone : (section : ℕ) (earlier : List CieRecord) (bytes before front after : List ℕ) (p : ℕ) (c : CieRecord) → bytes ≡ before ++ (front ++ after) → p ≡ length before → (whole_record section earlier).Spells p front (Cie c) → IsCieRead section bytes c
cie_alone section earlier bytes before front after p c whole place s =
    let start : c.start ≡ p = begins section earlier bytes before front after p (Cie c) whole place s in
    let read = reads section [] bytes before front after p (Cie c) whole place (whole_cie section p earlier front c s) in
    ap (λ (q : ℕ). cie_at section bytes q) start ∙ cie_read section bytes p c _ read

fde_alone : (section : ℕ) (earlier : List CieRecord) (bytes before front after : List ℕ) (p : ℕ) (f : FdeRecord) → bytes ≡ before ++ (front ++ after) → p ≡ length before → All (IsCieRead section bytes) earlier
    → (whole_record section earlier).Spells p front (Fde f) → IsFdeRead section bytes f
fde_alone section earlier bytes before front after p f whole place all s =
    let start : f.start ≡ p = begins section earlier bytes before front after p (Fde f) whole place s in
    let alone = whole_fde (IsCieRead section bytes) section p earlier front f all s in
    let read = reads section (f.cie ∷ []) bytes before front after p (Fde f) whole place alone.1 in
    ap (λ (q : ℕ). lone_fde section bytes f.cie.start q) start ∙ lone_fde-reads section bytes f.cie f.cie.start p f alone.0 (fde_read section bytes f.cie p f _ read)

-- ---- sections

cies_with : (section : ℕ) (bytes before front after : List ℕ) (p : ℕ) (earlier : List CieRecord) (r : Record) → bytes ≡ before ++ (front ++ after) → p ≡ length before → All (IsCieRead section bytes) earlier
    → (whole_record section earlier).Spells p front r → All (IsCieRead section bytes) (with_record earlier r)
cies_with section bytes before front after p earlier (Cie c) whole place all s =
    All-append (IsCieRead section bytes) earlier (c ∷ []) all (All-cons (IsCieRead section bytes) c [] (cie_alone section earlier bytes before front after p c whole place s) (All-nil (IsCieRead section bytes)))
cies_with section bytes before front after p earlier (Fde f) whole place all s = all

fdes_with : (section : ℕ) (bytes before front after : List ℕ) (p : ℕ) (earlier : List CieRecord) (r : Record) (rs : List Record) → bytes ≡ before ++ (front ++ after) → p ≡ length before → All (IsCieRead section bytes) earlier
    → (whole_record section earlier).Spells p front r → All (IsFdeRead section bytes) (fdes_of rs) → All (IsFdeRead section bytes) (fdes_of (r ∷ rs))
fdes_with section bytes before front after p earlier (Cie c) rs whole place all s more = more
fdes_with section bytes before front after p earlier (Fde f) rs whole place all s more = All-cons (IsFdeRead section bytes) f (fdes_of rs) (fde_alone section earlier bytes before front after p f whole place all s) more

records_alone : (section p : ℕ) (earlier : List CieRecord) (text : List ℕ) (rs : List Record) (bytes before after : List ℕ) → All (IsCieRead section bytes) earlier → AreRecords section p earlier text rs
    → bytes ≡ before ++ (text ++ after) → p ≡ length before → All (IsFdeRead section bytes) (fdes_of rs)
records_alone section p earlier text [] bytes before after all s whole place = All-nil (IsFdeRead section bytes)
records_alone section p earlier text (r ∷ rs) bytes before after all s whole place =
    let first : bytes ≡ before ++ (s.0 ++ (s.1 ++ after)) = whole ∙ ap (λ (l : List ℕ). before ++ (l ++ after)) s.2 ∙ ap (λ (l : List ℕ). before ++ l) (append_assoc s.0 s.1 after) in
    let cies = cies_with section bytes before s.0 (s.1 ++ after) p earlier r first place all s.3 in
    let more = records_alone section (p + length s.0) (with_record earlier r) s.1 rs bytes (before ++ s.0) after cies s.4 (first ∙ sym (append_assoc before s.0 (s.1 ++ after))) (omega (arith, place, length-append before s.0)) in
    fdes_with section bytes before s.0 (s.1 ++ after) p earlier r rs first place all s.3 more

pub section_alone : (section : ℕ) (bytes : List ℕ) (fdes : List FdeRecord) → HasFdes section bytes fdes → AreReadAlone section bytes fdes
unfolding HasFdes IsSection
section_alone section bytes fdes s =
    let alone = records_alone section 0 [] s.1.0 s.0 bytes [] s.1.1 (All-nil (IsCieRead section bytes)) s.1.3 s.1.2 refl in
    subst (λ (fs : List FdeRecord). All (IsFdeRead section bytes) fs) s.2 alone

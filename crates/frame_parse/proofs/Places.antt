-- The places of a section's FDEs ascend, and are those of bytes.
use Rattle.std.proofs.Common.{◌≡◌, ℕ, zero, suc, ◌+◌, ◌<◌, ◌≤◌, List, [], ◌∷◌, ◌++◌, length, get_or, Ok, sym, ap, subst, ◌∙◌, length-append, arith, inl, inr}
use Rattle.std.specs.List.{All}
use Rattle.eh_bytes.specs.CursorData.{CursorData}
use Rattle.std.proofs.lemmas.List.Elements.{All-cons}
use Rattle.frame_parse.specs.declared.records.CieRecord.{CieRecord}
use Rattle.frame_parse.specs.Entries.{FdeRecord, Record, Cie, Fde}
use Rattle.frame_parse.specs.Keeping.{record_start, RecordStands, KeepsFdes}
use Rattle.frame_parse.specs.Records.{cie, fde, content, record_at, whole_record}
use Rattle.frame_parse.specs.Sections.{AreRecords, fdes_of, IsSection, HasFdes, fde_starts, IsAscending}
use Rattle.frame_parse.proofs.OneAnswer.{record_grows}
use Rattle.frame_parse.proofs.RecordWholes.{whole_record_exact}
use Rattle.frame_parse.proofs.Kept.{section_kept}

-- ---- a record begins where it stands

fde_begins : (section start end p : ℕ) (c : CieRecord) (front : List ℕ) (f : FdeRecord) → (fde section start end c).Spells p front f → f.start ≡ start
unfolding fde
fde_begins section start end p c front f s = sym (ap (λ (k : FdeRecord). k.start) s.5.5.5.5.1)

cie_begins : (section start end p : ℕ) (front : List ℕ) (c : CieRecord) → (cie section start end).Spells p front c → c.start ≡ start
unfolding cie
cie_begins section start end p front c s = sym (ap (λ (k : CieRecord). k.start) s.5.5.5.5.5.5.5.1)

content_begins : (section : ℕ) (earlier : List CieRecord) (start end p : ℕ) (text : List ℕ) (r : Record) → (content section earlier start end).Spells p text r → record_start r ≡ start
unfolding content
content_begins section earlier start end p text r s =
    elim s.5.5 [
      | inl w ↦
          let v = w.1 in
          ap record_start (sym v.5.5.1) ∙ cie_begins section start end _ v.1 v.0 v.4
      | inr w ↦
          let v = w.1.5 in
          ap record_start (sym v.5.5.1) ∙ fde_begins section start end _ w.1.0 v.1 v.0 v.4
    ]

record_begins : (section p : ℕ) (earlier : List CieRecord) (front : List ℕ) (r : Record) → (whole_record section earlier).Spells p front r → record_start r ≡ p
unfolding whole_record record_at
record_begins section p earlier front r s =
    let held = s.5.5 in
    content_begins section earlier s.0 (held.0 + s.5.0) _ held.2 r held.5.1 ∙ sym s.4.1

-- what reading a record gives stands at the front of what was left
pub record_stands : (section : ℕ) (earlier : List CieRecord) (r : CursorData) (x : Record) (behind : CursorData) → (whole_record section earlier).read r ≡ Ok (x, behind) → RecordStands section earlier r x behind
record_stands section earlier r x behind e =
    let t = (whole_record_exact section earlier).takes r x behind e in
    let grown = record_grows section r.at earlier t.front x t.spells in
    record {
      front = t.front;
      parts = t.parts;
      place = t.place;
      spelled = t.spells;
      moves = omega (arith, t.place, grown);
      begins = record_begins section r.at earlier t.front x t.spells;
    }

-- ---- records one after another

-- the FDEs begin from a place on, each after those before it
abbrev pub FromPlace : ℕ → List FdeRecord → Type 0
FromPlace p [] = Unit {0}
FromPlace p (f ∷ fs) = (p ≤ f.start) × FromPlace (f.start + 1) fs

from_lower : (p q : ℕ) (fs : List FdeRecord) → q ≤ p → FromPlace p fs → FromPlace q fs
from_lower p q [] le a = tt
from_lower p q (f ∷ fs) le a = (let low = a.0 in omega arith, a.1)

records_ascend : (section p : ℕ) (earlier : List CieRecord) (text : List ℕ) (rs : List Record) → AreRecords section p earlier text rs → FromPlace p (fdes_of rs)
records_ascend section p earlier text [] s = tt
records_ascend section p earlier text (Cie c ∷ rs) s =
    from_lower (p + length s.0) p (fdes_of rs) (omega arith) (records_ascend section (p + length s.0) (earlier ++ c ∷ []) s.1 rs s.4)
records_ascend section p earlier text (Fde f ∷ rs) s =
    let at = record_begins section p earlier s.0 (Fde f) s.3 in
    let grown = record_grows section p earlier s.0 (Fde f) s.3 in
    (omega arith, from_lower (p + length s.0) (f.start + 1) (fdes_of rs) (omega (arith, grown, at)) (records_ascend section (p + length s.0) earlier s.1 rs s.4))

-- ---- sections

from-each : (p : ℕ) (fs : List FdeRecord) (i : ℕ) → FromPlace p fs → i < length (fde_starts fs) → p ≤ get_or (fde_starts fs) i 0
from-each p [] i a lt = absurd (omega arith)
from-each p (f ∷ fs) zero a lt = a.0
from-each p (f ∷ fs) (suc i) a lt = let more = from-each (f.start + 1) fs i a.1 (omega arith) in let low = a.0 in omega arith

from-ascends : (p : ℕ) (fs : List FdeRecord) → FromPlace p fs → IsAscending (fde_starts fs)
from-ascends p [] a i j lt inside = absurd (omega arith)
from-ascends p (f ∷ fs) a i zero lt inside = absurd (omega arith)
from-ascends p (f ∷ fs) a zero (suc j) lt inside = let more = from-each (f.start + 1) fs j a.1 (omega arith) in omega arith
from-ascends p (f ∷ fs) a (suc i) (suc j) lt inside = from-ascends (f.start + 1) fs a.1 i j (omega arith) (omega arith)

section_ascends : (section : ℕ) (bytes : List ℕ) (fdes : List FdeRecord) → HasFdes section bytes fdes → IsAscending (fde_starts fdes)
unfolding HasFdes IsSection
section_ascends section bytes fdes s =
    subst (λ (fs : List FdeRecord). IsAscending (fde_starts fs)) s.2 (from-ascends 0 (fdes_of s.0) (records_ascend section 0 [] s.1.0 s.0 s.1.3))

-- ---- FDEs begin inside the section

records_within : (section p end : ℕ) (earlier : List CieRecord) (text : List ℕ) (rs : List Record) → AreRecords section p earlier text rs → p + length text ≤ end → All (λ f. f.start < end) (fdes_of rs)
records_within section p end earlier text [] s low = λ k d inside. absurd (omega arith)
records_within section p end earlier text (Cie c ∷ rs) s low =
    let whole : length text ≡ length s.0 + length s.1 = ap length s.2 ∙ length-append s.0 s.1 in
    records_within section (p + length s.0) end (earlier ++ c ∷ []) s.1 rs s.4 (omega arith)
records_within section p end earlier text (Fde f ∷ rs) s low =
    let at = record_begins section p earlier s.0 (Fde f) s.3 in
    let grown = record_grows section p earlier s.0 (Fde f) s.3 in
    let whole : length text ≡ length s.0 + length s.1 = ap length s.2 ∙ length-append s.0 s.1 in
    All-cons (λ f. f.start < end) f (fdes_of rs) (omega (arith, at, grown)) (records_within section (p + length s.0) end earlier s.1 rs s.4 (omega arith))

section_within : (section : ℕ) (bytes : List ℕ) (fdes : List FdeRecord) → HasFdes section bytes fdes → All (λ f. f.start < length bytes) fdes
unfolding HasFdes IsSection
section_within section bytes fdes s =
    let i = s.1 in
    let whole : length bytes ≡ length i.0 + length i.1 = ap length i.2 ∙ length-append i.0 i.1 in
    subst (λ (fs : List FdeRecord). All (λ f. f.start < length bytes) fs) s.2 (records_within section 0 (length bytes) [] i.0 s.0 i.3 (omega arith))

pub section_keeps : (section : ℕ) (bytes : List ℕ) (fdes : List FdeRecord) → HasFdes section bytes fdes → KeepsFdes section bytes fdes
section_keeps section bytes fdes s =
    let kept = section_kept section bytes fdes s in
    record {
      programs = kept.0;
      ascending = section_ascends section bytes fdes s;
      within = section_within section bytes fdes s;
      ends = kept.1;
    }

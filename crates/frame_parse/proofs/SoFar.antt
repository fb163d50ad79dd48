-- Between two records: the records so far stand at the front of the bytes.
use Rattle.std.proofs.Common.{map, ◌≡◌, ℕ, zero, suc, ◌+◌, ◌<◌, List, [], ◌∷◌, ◌++◌, length, get_or, true, false, Ok, Err, refl, sym, ap, subst, ◌∙◌, append_assoc, length-append, arith, inl, inr}
use Rattle.std.proofs.lemmas.Bool.{cases_lt}
use Rattle.std.proofs.lemmas.List.{append-nil, map-append}
use Rattle.eh_bytes.specs.CursorData.{CursorData}
use Rattle.frame_parse.specs.declared.fault.FrameFault.{FrameFault}
use Rattle.frame_parse.specs.declared.records.CieRecord.{CieRecord}
use Rattle.std.specs.List.{All}
use Rattle.std.proofs.lemmas.List.Elements.{All-nil, All-cons, All-append}
use Rattle.frame_parse.specs.declared.records.FdeEntry.{FdeEntry}
use Rattle.frame_parse.specs.Entries.{FdeRecord, Record, Cie, Fde, no_cie, with_cie, fde_among, HasCie}
use Rattle.frame_parse.specs.Records.{whole_record}
use Rattle.frame_parse.specs.Sections.{is_end, with_record, AreRecords, cies_of, fdes_of, IsSection, IsRefused, HasFdes, starts, IsAscending}
use Rattle.eh_bytes.proofs.Exact.{left, Takes}
use Rattle.frame_parse.proofs.RecordWholes.{whole_record_exact}
use Rattle.frame_parse.proofs.OneAnswer.{cies-step, record_grows}
use Rattle.frame_parse.proofs.Searches.{starts-length}

pub record ReadSoFar (section : ℕ) (bytes : List ℕ) (cursor : CursorData) (cies : List CieRecord) (fdes : List FdeEntry) : Type 0 where
  pub records : List Record
  pub front : List ℕ
  pub parts : bytes ≡ front ++ cursor.bytes
  pub place : cursor.at ≡ length front
  pub spelled : AreRecords section 0 [] front records
  pub cies_are : cies ≡ cies_of records
  pub fdes_are : map (fde_among cies) fdes ≡ fdes_of records
  pub within : All (HasCie (length cies)) fdes
  pub ascending : IsAscending (starts cies)
  pub below : (i : ℕ) → i < length cies → get_or (starts cies) i 0 < cursor.at

-- one record more at the end
AreRecords-end : (section p : ℕ) (earlier : List CieRecord) (rs : List Record) (text front : List ℕ) (r : Record) → AreRecords section p earlier text rs
    → (whole_record section (earlier ++ cies_of rs)).Spells (p + length text) front r → AreRecords section p earlier (text ++ front) (rs ++ r ∷ [])
AreRecords-end section p earlier [] text front r s t =
    let whole : text ++ front ≡ front ++ [] = ap (λ (l : List ℕ). l ++ front) s ∙ sym (append-nil front) in
    let place : p + length text ≡ p = omega (arith, ap length s) in
    let here : (whole_record section earlier).Spells p front r =
    subst (λ (q : ℕ). (whole_record section earlier).Spells q front r) place
    (subst (λ (cs : List CieRecord). (whole_record section cs).Spells (p + length text) front r) (append-nil earlier) t) in
    (front, [], whole, here, refl)
AreRecords-end section p earlier (q ∷ qs) text front r s t =
    let whole : text ++ front ≡ s.0 ++ (s.1 ++ front) = ap (λ (l : List ℕ). l ++ front) s.2 ∙ append_assoc s.0 s.1 front in
    let place : p + length text ≡ p + length s.0 + length s.1 = omega (arith, ap length s.2, length-append s.0 s.1) in
    let there : (whole_record section (with_record earlier q ++ cies_of qs)).Spells (p + length s.0 + length s.1) front r =
    subst (λ (k : ℕ). (whole_record section (with_record earlier q ++ cies_of qs)).Spells k front r) place
    (subst (λ (cs : List CieRecord). (whole_record section cs).Spells (p + length text) front r) (cies-step earlier q qs) t) in
    (s.0, s.1 ++ front, whole, s.3, AreRecords-end section (p + length s.0) (with_record earlier q) qs s.1 front r s.4 there)

cies_of-cie : (rs : List Record) (c : CieRecord) → cies_of (rs ++ Cie c ∷ []) ≡ cies_of rs ++ c ∷ []
cies_of-cie [] c = refl
cies_of-cie (Cie d ∷ rs) c = ap (λ (cs : List CieRecord). d ∷ cs) (cies_of-cie rs c)
cies_of-cie (Fde f ∷ rs) c = cies_of-cie rs c

cies_of-fde : (rs : List Record) (f : FdeRecord) → cies_of (rs ++ Fde f ∷ []) ≡ cies_of rs
cies_of-fde [] f = refl
cies_of-fde (Cie d ∷ rs) f = ap (λ (cs : List CieRecord). d ∷ cs) (cies_of-fde rs f)
cies_of-fde (Fde g ∷ rs) f = cies_of-fde rs f

fdes_of-cie : (rs : List Record) (c : CieRecord) → fdes_of (rs ++ Cie c ∷ []) ≡ fdes_of rs
fdes_of-cie [] c = refl
fdes_of-cie (Cie d ∷ rs) c = fdes_of-cie rs c
fdes_of-cie (Fde f ∷ rs) c = ap (λ (fs : List FdeRecord). f ∷ fs) (fdes_of-cie rs c)

fdes_of-fde : (rs : List Record) (f : FdeRecord) → fdes_of (rs ++ Fde f ∷ []) ≡ fdes_of rs ++ f ∷ []
fdes_of-fde [] f = refl
fdes_of-fde (Cie d ∷ rs) f = fdes_of-fde rs f
fdes_of-fde (Fde g ∷ rs) f = ap (λ (fs : List FdeRecord). g ∷ fs) (fdes_of-fde rs f)

-- ---- places that ascend

starts-end : (cs : List CieRecord) (c : CieRecord) (i : ℕ) → i < length cs → get_or (starts (cs ++ c ∷ [])) i 0 ≡ get_or (starts cs) i 0
starts-end [] c i lt = absurd (omega arith)
starts-end (d ∷ cs) c zero lt = refl
starts-end (d ∷ cs) c (suc i) lt = starts-end cs c i (omega arith)

starts-last : (cs : List CieRecord) (c : CieRecord) → get_or (starts (cs ++ c ∷ [])) (length cs) 0 ≡ c.start
starts-last [] c = refl
starts-last (d ∷ cs) c = starts-last cs c

ascending-end : (cs : List CieRecord) (c : CieRecord) → IsAscending (starts cs) → ((i : ℕ) → i < length cs → get_or (starts cs) i 0 < c.start) → IsAscending (starts (cs ++ c ∷ []))
ascending-end cs c up low i j lt inside =
    let size : j < length cs + 1 = omega (arith, starts-length (cs ++ c ∷ []), length-append cs (c ∷ [])) in
    let first = starts-end cs c i (omega arith) in
    elim (cases_lt j (length cs)) [
      | inl before ↦ let second = starts-end cs c j before in let less = up i j lt (omega (arith, starts-length cs)) in omega arith
      | inr last ↦
          let same : j ≡ length cs = omega arith in
          let second : get_or (starts (cs ++ c ∷ [])) j 0 ≡ c.start = ap (λ (k : ℕ). get_or (starts (cs ++ c ∷ [])) k 0) same ∙ starts-last cs c in
          let less = low i (omega arith) in
          omega arith
    ]

below-end : (cs : List CieRecord) (c : CieRecord) (p q : ℕ) → ((i : ℕ) → i < length cs → get_or (starts cs) i 0 < p) → c.start ≡ p → p < q
    → (i : ℕ) → i < length (cs ++ c ∷ []) → get_or (starts (cs ++ c ∷ [])) i 0 < q
below-end cs c p q low e lt i inside =
    elim (cases_lt i (length cs)) [
      | inl before ↦ let first = starts-end cs c i before in let less = low i before in omega arith
      | inr last ↦
          let same : i ≡ length cs = omega (arith, length-append cs (c ∷ [])) in
          let second : get_or (starts (cs ++ c ∷ [])) i 0 ≡ c.start = ap (λ (k : ℕ). get_or (starts (cs ++ c ∷ [])) k 0) same ∙ starts-last cs c in
          omega arith
    ]

-- ---- FDEs whose CIEs are among the first

among-one : (cies : List CieRecord) (c : CieRecord) (i : ℕ) → i < length cies → get_or (cies ++ c ∷ []) i no_cie ≡ get_or cies i no_cie
among-one [] c i lt = absurd (omega arith)
among-one (d ∷ ds) c zero lt = refl
among-one (d ∷ ds) c (suc i) lt = among-one ds c i (omega arith)

pub among-end : (cies : List CieRecord) (c : CieRecord) (fs : List FdeEntry) → All (HasCie (length cies)) fs → map (fde_among (cies ++ c ∷ [])) fs ≡ map (fde_among cies) fs
among-end cies c [] all = refl
among-end cies c (f ∷ fs) all =
    ap (λ (d : CieRecord). with_cie d f ∷ map (fde_among (cies ++ c ∷ [])) fs) (among-one cies c f.cie (all 0 f (omega arith)))
    ∙ ap (λ (rs : List FdeRecord). fde_among cies f ∷ rs) (among-end cies c fs (λ k d lt. all (suc k) d (omega arith)))

pub within-end : (cies : List CieRecord) (c : CieRecord) (fs : List FdeEntry) → All (HasCie (length cies)) fs → All (HasCie (length (cies ++ c ∷ []))) fs
within-end cies c fs all = λ k d lt. let h = all k d lt in omega (arith, h, length-append cies (c ∷ []))

-- ---- from record to record

pub nothing_yet : (section : ℕ) (bytes : List ℕ) → ReadSoFar section bytes (left 0 bytes) [] []
nothing_yet section bytes = record {
  records = [];
  front = [];
  parts = refl;
  place = refl;
  spelled = refl;
  cies_are = refl;
  fdes_are = refl;
  within = All-nil (HasCie 0);
  ascending = λ i j lt inside. absurd (omega arith);
  below = λ i lt. absurd (omega arith);
}

-- the next record after those so far
next_record : (section : ℕ) (bytes : List ℕ) (cursor : CursorData) (cies : List CieRecord) (fdes : List FdeEntry) (r : Record) (new : CursorData) (s : ReadSoFar section bytes cursor cies fdes)
    → Takes (whole_record section cies) cursor r new → (more : List CieRecord) (entries : List FdeEntry) → more ≡ cies_of (s.records ++ r ∷ []) → map (fde_among more) entries ≡ fdes_of (s.records ++ r ∷ [])
    → All (HasCie (length more)) entries → IsAscending (starts more) → ((i : ℕ) → i < length more → get_or (starts more) i 0 < new.at) → ReadSoFar section bytes new more entries
next_record section bytes cursor cies fdes r new s t more entries cies_are fdes_are within ascending below =
    let place : cursor.at ≡ 0 + length s.front = omega (arith, s.place) in
    record {
      records = s.records ++ r ∷ [];
      front = s.front ++ t.front;
      parts = s.parts ∙ ap (λ (l : List ℕ). s.front ++ l) t.parts ∙ sym (append_assoc s.front t.front new.bytes);
      place = omega (arith, t.place, s.place, length-append s.front t.front);
      spelled =
          AreRecords-end section 0 [] s.records s.front t.front r s.spelled
          (subst (λ (q : ℕ). (whole_record section (cies_of s.records)).Spells q t.front r) place
          (subst (λ (cs : List CieRecord). (whole_record section cs).Spells cursor.at t.front r) s.cies_are t.spells));
      cies_are = cies_are;
      fdes_are = fdes_are;
      within = within;
      ascending = ascending;
      below = below;
    }

pub next_cie : (section : ℕ) (bytes : List ℕ) (cursor : CursorData) (cies : List CieRecord) (fdes : List FdeEntry) (c : CieRecord) (new : CursorData) → ReadSoFar section bytes cursor cies fdes
    → (whole_record section cies).read cursor ≡ Ok (Cie c, new) → c.start ≡ cursor.at → ReadSoFar section bytes new (cies ++ c ∷ []) fdes
next_cie section bytes cursor cies fdes c new s e begins =
    let t = (whole_record_exact section cies).takes cursor (Cie c) new e in
    let grown = record_grows section cursor.at cies t.front (Cie c) t.spells in
    next_record section bytes cursor cies fdes (Cie c) new s t (cies ++ c ∷ []) fdes (ap (λ (cs : List CieRecord). cs ++ c ∷ []) s.cies_are ∙ sym (cies_of-cie s.records c))
    (among-end cies c fdes s.within ∙ s.fdes_are ∙ sym (fdes_of-cie s.records c)) (within-end cies c fdes s.within)
    (ascending-end cies c s.ascending (λ i lt. let low = s.below i lt in omega arith)) (below-end cies c cursor.at new.at s.below begins (omega (arith, t.place, grown)))

pub next_fde : (section : ℕ) (bytes : List ℕ) (cursor : CursorData) (cies : List CieRecord) (fdes : List FdeEntry) (f : FdeEntry) (new : CursorData) → ReadSoFar section bytes cursor cies fdes
    → (whole_record section cies).read cursor ≡ Ok (Fde (fde_among cies f), new) → HasCie (length cies) f → ReadSoFar section bytes new cies (fdes ++ f ∷ [])
next_fde section bytes cursor cies fdes f new s e has =
    let g = fde_among cies f in
    let t = (whole_record_exact section cies).takes cursor (Fde g) new e in
    next_record section bytes cursor cies fdes (Fde g) new s t cies (fdes ++ f ∷ []) (s.cies_are ∙ sym (cies_of-fde s.records g))
    (map-append (fde_among cies) fdes (f ∷ []) ∙ ap (λ (fs : List FdeRecord). fs ++ g ∷ []) s.fdes_are ∙ sym (fdes_of-fde s.records g))
    (All-append (HasCie (length cies)) fdes (f ∷ []) s.within (All-cons (HasCie (length cies)) f [] has (All-nil (HasCie (length cies))))) s.ascending
    (λ i lt. let low = s.below i lt in omega (arith, t.place))

-- ---- the end, and a refusal

pub all_read : (section : ℕ) (bytes : List ℕ) (cursor : CursorData) (cies : List CieRecord) (fdes : List FdeEntry) → ReadSoFar section bytes cursor cies fdes → is_end cursor.bytes ≡ true → HasFdes section bytes (map (fde_among cies) fdes)
unfolding HasFdes IsSection
all_read section bytes cursor cies fdes s e = (s.records, (s.front, cursor.bytes, s.parts, s.spelled, e), sym s.fdes_are)

pub none_further : (section : ℕ) (bytes : List ℕ) (cursor : CursorData) (cies : List CieRecord) (fdes : List FdeEntry) (f : FrameFault) → ReadSoFar section bytes cursor cies fdes → is_end cursor.bytes ≡ false
    → (whole_record section cies).read cursor ≡ Err f → IsRefused section bytes f
unfolding IsRefused
none_further section bytes cursor cies fdes f s on e =
    let refusal = (whole_record_exact section cies).refuses cursor f e in
    let there : (whole_record section (cies_of s.records)).Refuses (length s.front) cursor.bytes f =
    subst (λ (q : ℕ). (whole_record section (cies_of s.records)).Refuses q cursor.bytes f) s.place
    (subst (λ (cs : List CieRecord). (whole_record section cs).Refuses cursor.at cursor.bytes f) s.cies_are refusal) in
    (s.records, s.front, cursor.bytes, s.parts, s.spelled, on, there)

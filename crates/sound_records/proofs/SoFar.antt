-- Between two items: those so far were kept, and those that are left stand from here on.
use Rattle.std.proofs.Common.{map, ◌≡◌, ℕ, suc, ◌+◌, ◌<◌, ◌≤◌, List, [], ◌∷◌, ◌++◌, length, take, drop, true, false, Ok, Err, refl, sym, ap, subst, ◌∙◌, append_assoc, arith}
use Rattle.std.specs.List.{All}
use Rattle.std.proofs.lemmas.List.{append-nil, map-append, take-append-drop, length-take-le}
use Rattle.std.proofs.lemmas.List.Elements.{All-nil, All-cons, All-append, All-map}
use Rattle.eh_bytes.specs.CursorData.{CursorData}
use Rattle.frame_parse.specs.declared.fault.FrameFault.{FrameFault}
use Rattle.frame_parse.specs.declared.records.CieRecord.{CieRecord}
use Rattle.frame_parse.specs.declared.records.FdeEntry.{FdeEntry}
use Rattle.frame_parse.specs.Entries.{FdeRecord, Record, Cie, Fde, fde_among, HasCie}
use Rattle.frame_parse.specs.Keeping.{CieKept, EndsLow, KeepsFdes, RecordKept, RecordStands, record_start}
use Rattle.frame_parse.specs.Programs.{HasPrograms}
use Rattle.frame_parse.specs.Records.{whole_record}
use Rattle.frame_parse.specs.Sections.{is_end, fdes_of, starts, fde_starts, IsAscending}
use Rattle.frame_parse.proofs.SoFar.{among-end, within-end}
use Rattle.sound_records.specs.declared.refused.RefusedRecord.{RefusedRecord}
use Rattle.sound_records.specs.Items.{Item, Sound, Refused, items_from, items_of, sound_in, refused_in}
use Rattle.sound_records.specs.Sections.{left_from, left_behind}
use Rattle.sound_records.proofs.Places.{behind_text, ascends_on}
use Rattle.sound_records.proofs.Items.{items_end, refused_at, next_sound, next_refused}

-- ---- what frame_parse says of records

abbrev pub Stand : Type 0
Stand = (section : ℕ) (earlier : List CieRecord) (r : CursorData) (x : Record) (behind : CursorData) → (whole_record section earlier).read r ≡ Ok (x, behind) → RecordStands section earlier r x behind

abbrev pub AreKept : Type 0
AreKept = (section : ℕ) (earlier : List CieRecord) (bytes before front after : List ℕ) (r : Record) → bytes ≡ before ++ (front ++ after) → All (CieKept section bytes) earlier
    → (whole_record section earlier).Spells (length before) front r → RecordKept section bytes r

-- a record that was read from a place on
pub record ReadAt (section : ℕ) (bytes : List ℕ) (at : ℕ) (x : Record) (new : CursorData) : Type 0 where
  pub left : new ≡ left_from bytes new.at
  pub within : new.at ≤ length bytes
  pub moves : at < new.at
  pub begins : record_start x ≡ at
  pub kept : RecordKept section bytes x

pub read_at : Stand → AreKept → (section : ℕ) (cies : List CieRecord) (bytes : List ℕ) (at : ℕ) (x : Record) (new : CursorData) → at ≤ length bytes → All (CieKept section bytes) cies
    → (whole_record section cies).read (left_from bytes at) ≡ Ok (x, new) → ReadAt section bytes at x new
read_at stand are_kept section cies bytes at x new within kept e =
    let s = stand section cies (left_from bytes at) x new e in
    let b = behind_text bytes s.front at new s.parts s.place within in
    let whole : bytes ≡ take at bytes ++ (s.front ++ new.bytes) = sym (take-append-drop at bytes) ∙ ap (λ (l : List ℕ). take at bytes ++ l) s.parts in
    let spelled : (whole_record section cies).Spells (length (take at bytes)) s.front x =
    subst (λ (q : ℕ). (whole_record section cies).Spells q s.front x) (sym (length-take-le at bytes within)) s.spelled in
    record {
      left = b.left;
      within = b.within;
      moves = s.moves;
      begins = s.begins;
      kept = are_kept section cies bytes (take at bytes) s.front new.bytes x whole kept spelled;
    }

-- ---- the FDEs so far

pub record Held (section : ℕ) (bytes : List ℕ) (at : ℕ) (held : List FdeRecord) : Type 0 where
  pub programs : All (HasPrograms section bytes) held
  pub ascending : IsAscending (fde_starts held)
  pub low : All (λ f. f.start < at) held
  pub ends : All EndsLow held

nothing_held : (section : ℕ) (bytes : List ℕ) → Held section bytes 0 []
nothing_held section bytes = record {
  programs = All-nil (HasPrograms section bytes);
  ascending = λ i j lt inside. absurd (omega arith);
  low = λ k d lt. absurd (omega arith);
  ends = All-nil EndsLow;
}

held_on : (section : ℕ) (bytes : List ℕ) (at next : ℕ) (held : List FdeRecord) → Held section bytes at held → at ≤ next → Held section bytes next held
held_on section bytes at next held h up = record {
  programs = h.programs;
  ascending = h.ascending;
  low = λ k d lt. let less = h.low k d lt in omega arith;
  ends = h.ends;
}

held_more : (section : ℕ) (bytes : List ℕ) (at next : ℕ) (held : List FdeRecord) (f : FdeRecord) → Held section bytes at held → RecordKept section bytes (Fde f) → f.start ≡ at → at < next → Held section bytes next (held ++ f ∷ [])
held_more section bytes at next held f h kept begins up =
    let low : All (λ g. g.start < f.start) held = λ k d lt. let less = h.low k d lt in omega (arith, begins) in
    record {
      programs = All-append (HasPrograms section bytes) held (f ∷ []) h.programs (All-cons (HasPrograms section bytes) f [] kept.0 (All-nil (HasPrograms section bytes)));
      ascending =
          subst IsAscending (sym (map-append (λ (g : FdeRecord). g.start) held (f ∷ [])))
          (ascends_on (fde_starts held) f.start h.ascending (All-map (λ m. m < f.start) (λ (g : FdeRecord). g.start) held low));
      low =
          All-append (λ g. g.start < next) held (f ∷ []) (λ k d lt. let less = h.low k d lt in omega arith)
          (All-cons (λ g. g.start < next) f [] (omega (arith, begins)) (All-nil (λ (g : FdeRecord). g.start < next)));
      ends = All-append EndsLow held (f ∷ []) h.ends (All-cons EndsLow f [] kept.1 (All-nil EndsLow));
    }

-- ---- items so far

pub record ReadSoFar (section : ℕ) (bytes : List ℕ) (at : ℕ) (cies : List CieRecord) (fdes : List FdeEntry) (refused : List RefusedRecord) : Type 0 where
  pub within : at ≤ length bytes
  pub steps : ℕ
  pub enough : length bytes < at + steps
  pub fdes_are : fdes_of (sound_in (items_of section bytes)) ≡ map (fde_among cies) fdes ++ fdes_of (sound_in (items_from steps section cies (left_from bytes at)))
  pub refused_are : refused_in (items_of section bytes) ≡ refused ++ refused_in (items_from steps section cies (left_from bytes at))
  pub has_cies : All (HasCie (length cies)) fdes
  pub ascending : IsAscending (starts cies)
  pub low : All (λ c. c.start < at) cies
  pub kept : All (CieKept section bytes) cies
  pub held : Held section bytes at (map (fde_among cies) fdes)

pub nothing_yet : (section : ℕ) (bytes : List ℕ) → ReadSoFar section bytes 0 [] [] []
unfolding items_of
nothing_yet section bytes = record {
  within = omega arith;
  steps = suc (length bytes);
  enough = omega arith;
  fdes_are = refl;
  refused_are = refl;
  has_cies = All-nil (HasCie 0);
  ascending = λ i j lt inside. absurd (omega arith);
  low = λ k d lt. absurd (omega arith);
  kept = All-nil (CieKept section bytes);
  held = nothing_held section bytes;
}

-- the FDEs of the items that are left, which are told anew
fdes_left : (all before : List FdeRecord) (is js : List Item) → all ≡ before ++ fdes_of (sound_in is) → is ≡ js → all ≡ before ++ fdes_of (sound_in js)
fdes_left all before is js are same = are ∙ ap (λ (l : List Item). before ++ fdes_of (sound_in l)) same

pub next_cie : Stand → AreKept → (section : ℕ) (bytes : List ℕ) (at : ℕ) (cies : List CieRecord) (fdes : List FdeEntry) (refused : List RefusedRecord) (c : CieRecord) (new : CursorData)
    → ReadSoFar section bytes at cies fdes refused → is_end (drop at bytes) ≡ false → (whole_record section cies).read (left_from bytes at) ≡ Ok (Cie c, new) → ReadSoFar section bytes new.at (cies ++ c ∷ []) fdes refused
next_cie stand are_kept section bytes at cies fdes refused c new s on e =
    let x = read_at stand are_kept section cies bytes at (Cie c) new s.within s.kept e in
    let n = next_sound s.steps section cies (left_from bytes at) (Cie c) new (omega (arith, s.enough, s.within)) on e in
    let behind : items_from s.steps section cies (left_from bytes at) ≡ Sound (Cie c) ∷ items_from n.fewer section (cies ++ c ∷ []) (left_from bytes new.at) =
    n.items ∙ ap (λ (r : CursorData). Sound (Cie c) ∷ items_from n.fewer section (cies ++ c ∷ []) r) x.left in
    let among = among-end cies c fdes s.has_cies in
    let low : All (λ d. d.start < c.start) cies = λ k d lt. let less = s.low k d lt in omega (arith, x.begins) in
    record {
      within = x.within;
      steps = n.fewer;
      enough = omega (arith, s.enough, n.one, x.moves);
      fdes_are = fdes_left _ _ _ _ s.fdes_are behind ∙ ap (λ (fs : List FdeRecord). fs ++ fdes_of (sound_in (items_from n.fewer section (cies ++ c ∷ []) (left_from bytes new.at)))) (sym among);
      refused_are = s.refused_are ∙ ap (λ (is : List Item). refused ++ refused_in is) behind;
      has_cies = within-end cies c fdes s.has_cies;
      ascending =
          subst IsAscending (sym (map-append (λ (d : CieRecord). d.start) cies (c ∷ [])))
          (ascends_on (starts cies) c.start s.ascending (All-map (λ m. m < c.start) (λ (d : CieRecord). d.start) cies low));
      low =
          All-append (λ d. d.start < new.at) cies (c ∷ []) (λ k d lt. let less = s.low k d lt in omega (arith, x.moves))
          (All-cons (λ d. d.start < new.at) c [] (omega (arith, x.begins, x.moves)) (All-nil (λ (d : CieRecord). d.start < new.at)));
      kept = All-append (CieKept section bytes) cies (c ∷ []) s.kept (All-cons (CieKept section bytes) c [] x.kept (All-nil (CieKept section bytes)));
      held = subst (λ (fs : List FdeRecord). Held section bytes new.at fs) (sym among) (held_on section bytes at new.at (map (fde_among cies) fdes) s.held (omega (arith, x.moves)));
    }

pub next_fde : Stand → AreKept → (section : ℕ) (bytes : List ℕ) (at : ℕ) (cies : List CieRecord) (fdes : List FdeEntry) (refused : List RefusedRecord) (f : FdeEntry) (new : CursorData)
    → ReadSoFar section bytes at cies fdes refused → is_end (drop at bytes) ≡ false → (whole_record section cies).read (left_from bytes at) ≡ Ok (Fde (fde_among cies f), new) → HasCie (length cies) f
    → ReadSoFar section bytes new.at cies (fdes ++ f ∷ []) refused
next_fde stand are_kept section bytes at cies fdes refused f new s on e has =
    let g = fde_among cies f in
    let x = read_at stand are_kept section cies bytes at (Fde g) new s.within s.kept e in
    let n = next_sound s.steps section cies (left_from bytes at) (Fde g) new (omega (arith, s.enough, s.within)) on e in
    let behind : items_from s.steps section cies (left_from bytes at) ≡ Sound (Fde g) ∷ items_from n.fewer section cies (left_from bytes new.at) =
    n.items ∙ ap (λ (r : CursorData). Sound (Fde g) ∷ items_from n.fewer section cies r) x.left in
    let more : map (fde_among cies) (fdes ++ f ∷ []) ≡ map (fde_among cies) fdes ++ g ∷ [] = map-append (fde_among cies) fdes (f ∷ []) in
    let later = fdes_of (sound_in (items_from n.fewer section cies (left_from bytes new.at))) in
    record {
      within = x.within;
      steps = n.fewer;
      enough = omega (arith, s.enough, n.one, x.moves);
      fdes_are = fdes_left _ _ _ _ s.fdes_are behind ∙ sym (append_assoc (map (fde_among cies) fdes) (g ∷ []) later) ∙ ap (λ (fs : List FdeRecord). fs ++ later) (sym more);
      refused_are = s.refused_are ∙ ap (λ (is : List Item). refused ++ refused_in is) behind;
      has_cies = All-append (HasCie (length cies)) fdes (f ∷ []) s.has_cies (All-cons (HasCie (length cies)) f [] has (All-nil (HasCie (length cies))));
      ascending = s.ascending;
      low = λ k d lt. let less = s.low k d lt in omega (arith, x.moves);
      kept = s.kept;
      held = subst (λ (fs : List FdeRecord). Held section bytes new.at fs) (sym more) (held_more section bytes at new.at (map (fde_among cies) fdes) g s.held x.kept x.begins x.moves);
    }

pub next_refusal : (section : ℕ) (bytes : List ℕ) (at : ℕ) (cies : List CieRecord) (fdes : List FdeEntry) (refused : List RefusedRecord) (fault : FrameFault) (next : ℕ)
    → ReadSoFar section bytes at cies fdes refused → is_end (drop at bytes) ≡ false → (whole_record section cies).read (left_from bytes at) ≡ Err fault
    → left_from bytes next ≡ left_behind bytes (left_from bytes at) → next ≤ length bytes → at < next
    → ReadSoFar section bytes next cies fdes (refused ++ refused_at section cies (left_from bytes at) fault ∷ [])
next_refusal section bytes at cies fdes refused fault next s on e left within moves =
    let x = refused_at section cies (left_from bytes at) fault in
    let n = next_refused s.steps section cies bytes (left_from bytes at) fault (omega (arith, s.enough, s.within)) on e in
    let behind : items_from s.steps section cies (left_from bytes at) ≡ Refused x ∷ items_from n.fewer section cies (left_from bytes next) =
    n.items ∙ ap (λ (r : CursorData). Refused x ∷ items_from n.fewer section cies r) (sym left) in
    record {
      within = within;
      steps = n.fewer;
      enough = omega (arith, s.enough, n.one, moves);
      fdes_are = s.fdes_are ∙ ap (λ (is : List Item). map (fde_among cies) fdes ++ fdes_of (sound_in is)) behind;
      refused_are =
          s.refused_are ∙ ap (λ (is : List Item). refused ++ refused_in is) behind
          ∙ sym (append_assoc refused (x ∷ []) (refused_in (items_from n.fewer section cies (left_from bytes next))));
      has_cies = s.has_cies;
      ascending = s.ascending;
      low = λ k d lt. let less = s.low k d lt in omega arith;
      kept = s.kept;
      held = held_on section bytes at next (map (fde_among cies) fdes) s.held (omega arith);
    }

-- ---- the end

pub record AllRead (section : ℕ) (bytes : List ℕ) (held : List FdeRecord) (refused : List RefusedRecord) : Type 0 where
  pub fdes : held ≡ fdes_of (sound_in (items_of section bytes))
  pub refusals : refused ≡ refused_in (items_of section bytes)
  pub keeps : KeepsFdes section bytes held

pub all_read : (section : ℕ) (bytes : List ℕ) (at : ℕ) (cies : List CieRecord) (fdes : List FdeEntry) (refused : List RefusedRecord) → ReadSoFar section bytes at cies fdes refused → is_end (drop at bytes) ≡ true
    → AllRead section bytes (map (fde_among cies) fdes) refused
all_read section bytes at cies fdes refused s e =
    let none = items_end s.steps section cies (left_from bytes at) e in
    let held = map (fde_among cies) fdes in
    record {
      fdes = sym (s.fdes_are ∙ ap (λ (is : List Item). held ++ fdes_of (sound_in is)) none ∙ append-nil held);
      refusals = sym (s.refused_are ∙ ap (λ (is : List Item). refused ++ refused_in is) none ∙ append-nil refused);
      keeps = record {
        programs = s.held.programs;
        ascending = s.held.ascending;
        within = λ k d lt. let less = s.held.low k d lt in omega (arith, s.within);
        ends = s.held.ends;
      };
    }

-- The programs of a section's FDEs stand in its bytes, as they were read.
use Rattle.std.proofs.Common.{◌≡◌, ℕ, zero, suc, ◌+◌, ◌-◌, List, [], ◌∷◌, ◌++◌, length, Bool, true, false, cond, Option, Some, None, Ok, Err, nat_lt, nat_eq, refl, sym, ap, subst, ◌∙◌, append_assoc, length-append, arith, inl, inr}
use Rattle.std.specs.Prelude.{slice_get}
use Rattle.std.specs.List.{All}
use Rattle.std.proofs.lemmas.List.{append-nil}
use Rattle.std.proofs.lemmas.List.Elements.{All-nil, All-cons, All-tail, All-append}
use Rattle.frame_parse.specs.declared.fault.RecordFault.{RecordFault}
use Rattle.frame_parse.specs.declared.fault.RecordFault.TheVariants as faults
use Rattle.frame_parse.specs.declared.records.Extent.{Extent}
use Rattle.frame_parse.specs.declared.records.CieRecord.{CieRecord}
use Rattle.frame_parse.specs.Entries.{FdeRecord, Record, Cie, Fde}
use Rattle.frame_parse.specs.Instructions.{PlacedInstruction, PlacedStep}
use Rattle.frame_parse.specs.declared.instructions.InstructionWith.TheVariants.{Nop, Advance, Set, Restore, Remember, RestoreState, Cfa, CfaColumn, CfaOffset, CfaExpression}
use Rattle.frame_parse.specs.declared.instructions.RawInstruction.{RawInstruction}
use Rattle.frame_parse.specs.declared.instructions.RawInstruction.TheVariants as operations
use Rattle.frame_parse.specs.declared.program_state.ProgramState.{ProgramState}
use Rattle.frame_parse.specs.declared.instructions.context.ProgramKind.TheVariants.{Initial, Own}
use Rattle.eh_bytes.specs.Grammar.{given, found}
use Rattle.frame_parse.specs.Programs.{most_remembered, context_of, effect_of, effect, step, top, below_top, initial_state, first_state, PlacedProgramData, HasPlacedSteps, initial_of, text_in, IsExtent, HasPrograms}
use Rattle.frame_parse.specs.Steps.{left_of_initial, HaveOneCie, HaveOneProgram}
use Rattle.eh_bytes.specs.Steps.{AreSteps}
use Rattle.frame_parse.specs.Sections.{FdeData, AreRecords, with_record, fdes_of, IsSection, HasFdes}
use Rattle.frame_parse.specs.Keeping.{CieKept, EndsLow, RecordKept}
use Rattle.frame_parse.proofs.Ends.{record_ends}
use Rattle.frame_parse.proofs.RecordParts.{parts_length}
use Rattle.frame_parse.specs.Records.{cie, fde, cie_from, cie_after, content, record_at, whole_record}

-- ---- what a step doesn't look at

-- the location, where it can't move
given_lift : (b : Bool) (x m : ProgramState) (f : RecordFault) (p : ℕ) (text : List ℕ) (k : ProgramState → ProgramState) → (given (cond b (Ok x) (Err f))).Spells p text m → (given (cond b (Ok (k x)) (Err f))).Spells p text (k m)
given_lift true x m f p text k a = (a.0, ap k a.1)
given_lift false x m f p text k a = absurd a

abbrev moved : ℕ → ProgramState → ProgramState
moved l s = record s { location = l }

given_at : (at l p : ℕ) (s m : ProgramState) (i : PlacedInstruction) (text : List ℕ) → (given (effect_of at s i)).Spells p text m → (given (effect_of at (moved l s) i)).Spells p text (moved l m)
given_at at l p s m Nop text a = (a.0, ap (moved l) a.1)
given_at at l p s m Advance text a = (a.0, ap (moved l) a.1)
given_at at l p s m (Set r rule) text a = (a.0, ap (moved l) a.1)
given_at at l p s m (Restore r) text a = (a.0, ap (moved l) a.1)
given_at at l p s m (Cfa r n) text a = (a.0, ap (moved l) a.1)
given_at at l p s m (CfaExpression e) text a = (a.0, ap (moved l) a.1)
given_at at l p s m Remember text a = given_lift (nat_lt (length s.remembered) most_remembered) (record s { remembered = s.remembered ++ s.offset ∷ [] }) m (faults.Remember at) p text (moved l) a
given_at at l p s m RestoreState text a = given_lift (nat_lt 0 (length s.remembered)) (record s { offset = top s.remembered; remembered = below_top s.remembered }) m (faults.Remember at) p text (moved l) a
given_at at l p s m (CfaColumn r) text a = given_lift s.offset s m (faults.CfaRule at) p text (moved l) a
given_at at l p s m (CfaOffset n) text a = given_lift s.offset s m (faults.CfaRule at) p text (moved l) a

effect_at : (section at l p : ℕ) (c : CieRecord) (s m : ProgramState) (o : RawInstruction) (text : List ℕ) → (given (effect at (context_of section c Initial) s o)).Spells p text m → (given (effect at (context_of section c Initial) (moved l s) o)).Spells p text (moved l m)
effect_at section at l p c s m (operations.Advance d) text a = absurd a
effect_at section at l p c s m (operations.SetLocation d) text a = absurd a
effect_at section at l p c s m (operations.Other i) text a = given_at at l p s m i text a

step_at : (section l p : ℕ) (c : CieRecord) (s m : ProgramState) (front : List ℕ) (x : PlacedStep) → (step (context_of section c Initial) s).Spells p front (x, m)
    → (step (context_of section c Initial) (moved l s)).Spells p front (record x { location = l }, moved l m)
unfolding step
step_at section l p c s m front x a =
    let b = a.5 in
    let d = b.5 in
    let both : PlacedStep × ProgramState → PlacedStep × ProgramState = λ z. (record z.0 { location = l }, moved l z.1) in
    (a.0, a.1, a.2, a.3, a.4, (b.0, b.1, b.2, b.3, b.4, (moved l d.0, d.1, d.2, d.3, effect_at section a.0 l _ c s d.0 b.0 d.1 d.4, (d.5.0, ap both d.5.1))))

AreSteps_at : (section l : ℕ) (c : CieRecord) (p : ℕ) (s : ProgramState) (text : List ℕ) (steps : List PlacedStep) (t : ProgramState) → AreSteps (step (context_of section c Initial)) p s text steps t
    → (others : List PlacedStep) × AreSteps (step (context_of section c Initial)) p (moved l s) text others (moved l t) × HaveOneProgram others steps
AreSteps_at section l c p s text [] t a = ([], (a.0, ap (moved l) a.1), refl)
AreSteps_at section l c p s text (x ∷ xs) t a =
    let later = AreSteps_at section l c (p + length a.1) a.0 a.2 xs t a.5 in
    (record x { location = l } ∷ later.0, (moved l a.0, a.1, a.2, a.3, step_at section l p c s a.0 a.1 x a.4, later.1), ap (λ (k : List PlacedInstruction). x.instruction ∷ k) later.2)

-- the initial instructions of two FDEs with one CIE
pub initial_alike : (f g : FdeData) (steps : List PlacedStep) → HaveOneCie f g → HasPlacedSteps (left_of_initial f) steps → (others : List PlacedStep) × HasPlacedSteps (left_of_initial g) others × HaveOneProgram others steps
unfolding HasPlacedSteps
initial_alike f g steps one has =
    let there = AreSteps_at f.section g.entry.first f.entry.cie f.entry.cie.initial.at (record initial_state { location = f.entry.first }) (text_in f.bytes f.entry.cie.initial) steps has.0 has.1 in
    let program : ℕ → List ℕ → CieRecord → PlacedProgramData = λ section bytes c. initial_of section (record g.entry { cie = c }) (text_in bytes c.initial) in
    let here : HasPlacedSteps (program f.section f.bytes f.entry.cie) there.0 = (moved g.entry.first has.0, there.1) in
    let by_section = subst (λ (k : ℕ). HasPlacedSteps (program k f.bytes f.entry.cie) there.0) one.section here in
    let by_bytes = subst (λ (k : List ℕ). HasPlacedSteps (program g.section k f.entry.cie) there.0) one.bytes by_section in
    (there.0, subst (λ (k : CieRecord). HasPlacedSteps (program g.section g.bytes k) there.0) one.cie by_bytes, there.2)

-- ---- where programs stand

cie_place : (section start end p : ℕ) (front : List ℕ) (c : CieRecord) → (cie section start end).Spells p front c
    → c.initial ≡ record { at = p + length front; end = end }
unfolding cie
cie_place section start end p front c s =
    let s1 = s.5 in let s2 = s1.5 in let s3 = s2.5 in let s4 = s3.5 in let s5 = s4.5 in let s6 = s5.5 in
    let place : s6.0 ≡ p + length front = omega (arith, s6.4.1, parts_length front s.1 s.2 s.3, parts_length s.2 s1.1 s1.2 s1.3, parts_length s1.2 s2.1 s2.2 s2.3, parts_length s2.2 s3.1 s3.2 s3.3, parts_length s3.2 s4.1 s4.2 s4.3, parts_length s4.2 s5.1 s5.2 s5.3, parts_length s5.2 s6.1 s6.2 s6.3, ap length s6.4.0, ap length s6.5.0) in
    let made : Extent = record { at = s6.0; end = end } in
    let found : c.initial ≡ made = sym (ap (λ (k : CieRecord). k.initial) s6.5.1) in
    found ∙ ap (λ (q : ℕ). record { at = q; end = end }) place

fde_place : (section start end p : ℕ) (c : CieRecord) (front : List ℕ) (f : FdeRecord) → (fde section start end c).Spells p front f
    → (f.program ≡ record { at = p + length front; end = end }) × (f.cie ≡ c)
unfolding fde
fde_place section start end p c front f s =
    let s1 = s.5 in let s2 = s1.5 in let s3 = s2.5 in
    let place : s3.0 ≡ p + length front = omega (arith, s3.4.1, parts_length front s.1 s.2 s.3, parts_length s.2 s1.1 s1.2 s1.3, parts_length s1.2 s2.1 s2.2 s2.3, parts_length s2.2 s3.1 s3.2 s3.3, ap length s3.4.0, ap length s3.5.0) in
    let made : Extent = record { at = s3.0; end = end } in
    let found : f.program ≡ made = sym (ap (λ (k : FdeRecord). k.program) s3.5.1) in
    (found ∙ ap (λ (q : ℕ). record { at = q; end = end }) place, sym (ap (λ (k : FdeRecord). k.cie) s3.5.1))

-- a text after others, up to the end of its record
extent : (bytes before head body text after : List ℕ) (p at end : ℕ) → bytes ≡ before ++ (text ++ after) → text ≡ head ++ body → p ≡ length before → at ≡ p + length head → end ≡ p + length text
    → IsExtent bytes (record { at = at; end = end }) body
extent bytes before head body text after p at end whole parts start place size =
    let regrouped : bytes ≡ (before ++ head) ++ (body ++ after) =
    whole ∙ ap (λ (l : List ℕ). before ++ (l ++ after)) parts ∙ ap (λ (l : List ℕ). before ++ l) (append_assoc head body after) ∙ sym (append_assoc before head (body ++ after)) in
    (before ++ head, after, regrouped, omega (arith, length-append before head), omega (arith, ap length parts, length-append head body))

content_cie : (section p : ℕ) (earlier : List CieRecord) (start end : ℕ) (text bytes before after : List ℕ) (c : CieRecord) → (content section earlier start end).Spells p text (Cie c)
    → bytes ≡ before ++ (text ++ after) → p ≡ length before → end ≡ p + length text → CieKept section bytes c
unfolding content
content_cie section p earlier start end text bytes before after c s whole place size =
    let id = s.5 in
    elim id.5 [
      | inl w ↦
          let q = w.1 in
          let rest = q.5 in
          let same : record q.0 { offset = rest.0.offset } ≡ c = let made = rest.5.1 in cc in
          let head = id.1 ++ q.1 in
          let parts : text ≡ head ++ rest.1 =
          s.3 ∙ ap (λ (l : List ℕ). l ++ s.2) s.4.0 ∙ id.3 ∙ ap (λ (l : List ℕ). id.1 ++ l) (q.3 ∙ ap (λ (l : List ℕ). q.1 ++ l) (rest.3 ∙ ap (λ (l : List ℕ). rest.1 ++ l) rest.5.0 ∙ append-nil rest.1))
          ∙ sym (append_assoc id.1 q.1 rest.1) in
          let placed = cie_place section start end _ q.1 q.0 q.4 in
          let at : p + length s.1 + length id.1 + length q.1 ≡ p + length head = omega (arith, ap length s.4.0, length-append id.1 q.1) in
          let inside : IsExtent bytes q.0.initial rest.1 =
          subst (λ (e : Extent). IsExtent bytes e rest.1) (sym placed) (extent bytes before head rest.1 text after p (p + length s.1 + length id.1 + length q.1) end whole parts place at size) in
          let here = subst (λ (k : ℕ). AreSteps (step (context_of section q.0 Initial)) k initial_state rest.1 rest.4.0 rest.0) (sym (ap (λ (e : Extent). e.at) placed)) rest.4.1 in
          subst (λ (k : CieRecord). CieKept section bytes k) same (record { text = rest.1; inside = inside; steps = rest.4.0; last = rest.0; spelled = here })
      | inr w ↦ absurd (let never = w.1.5.5.5.1 in cc)
    ]

-- ---- FDEs, with their CIEs among the earlier ones

found_spells : (o : Option CieRecord) (f : RecordFault) (p : ℕ) (text : List ℕ) (c : CieRecord) → (found o f).Spells p text c → (text ≡ []) × (o ≡ Some c)
found_spells None f p text c a = absurd a
found_spells (Some d) f p text c a = (a.0, ap (λ (k : CieRecord). Some k) a.1)

kept_choice : (section : ℕ) (bytes : List ℕ) (b : Bool) (d c : CieRecord) (o : Option CieRecord) → CieKept section bytes d → (o ≡ Some c → CieKept section bytes c) → cond b (Some d) o ≡ Some c → CieKept section bytes c
kept_choice section bytes true d c o kept more e = subst (λ (k : CieRecord). CieKept section bytes k) (let same : d ≡ c = cc in same) kept
kept_choice section bytes false d c o kept more e = more e

cie_from-kept : (section : ℕ) (bytes : List ℕ) (cs : List CieRecord) (place : ℕ) (c : CieRecord) → All (CieKept section bytes) cs → cie_from cs place ≡ Some c → CieKept section bytes c
cie_from-kept section bytes [] place c all e = absurd cc
cie_from-kept section bytes (d ∷ cs) place c all e = kept_choice section bytes (nat_eq d.start place) d c (cie_from cs place) (all 0 d (omega arith)) (cie_from-kept section bytes cs place c (All-tail (CieKept section bytes) d cs all)) e

kept_after : (section : ℕ) (bytes : List ℕ) (b : Bool) (cs : List CieRecord) (place : ℕ) (c : CieRecord) → All (CieKept section bytes) cs → cond b None (cie_from cs place) ≡ Some c → CieKept section bytes c
kept_after section bytes true cs place c all e = absurd cc
kept_after section bytes false cs place c all e = cie_from-kept section bytes cs place c all e

-- the programs of an FDE, whose CIE was kept
programs_of : (section : ℕ) (bytes text : List ℕ) (f : FdeRecord) (steps : List PlacedStep) (t : ProgramState) → CieKept section bytes f.cie → IsExtent bytes f.program text
    → AreSteps (step (context_of section f.cie Own)) f.program.at (first_state f.cie f.first) text steps t → HasPrograms section bytes f
unfolding HasPlacedSteps
programs_of section bytes text f steps t kept inside a =
    let moved_steps = AreSteps_at section f.first f.cie f.cie.initial.at initial_state kept.text kept.steps kept.last kept.spelled in
    record {
      text = text;
      inside = inside;
      steps = steps;
      spelled = (t, a);
      initial_text = kept.text;
      initial_inside = kept.inside;
      initial_steps = moved_steps.0;
      initial_spelled = (moved f.first kept.last, moved_steps.1);
    }

content_fde : (section p : ℕ) (earlier : List CieRecord) (start end : ℕ) (text bytes before after : List ℕ) (f : FdeRecord) → All (CieKept section bytes) earlier → (content section earlier start end).Spells p text (Fde f)
    → bytes ≡ before ++ (text ++ after) → p ≡ length before → end ≡ p + length text → HasPrograms section bytes f
unfolding content
content_fde section p earlier start end text bytes before after f all s whole place size =
    let id = s.5 in
    elim id.5 [
      | inl w ↦ absurd (let never = w.1.5.5.1 in cc)
      | inr w ↦
          let u = w.1 in
          let v = u.5 in
          let rest = v.5 in
          let same : v.0 ≡ f = let made = rest.5.1 in cc in
          let known = found_spells (cie_after earlier s.0 id.0) (faults.NoCie s.0) _ u.1 u.0 u.4 in
          let kept = kept_after section bytes (nat_lt s.0 id.0) earlier (s.0 - id.0) u.0 all known.1 in
          let head = id.1 ++ v.1 in
          let parts : text ≡ head ++ rest.1 =
          s.3 ∙ ap (λ (l : List ℕ). l ++ s.2) s.4.0 ∙ id.3
          ∙ ap (λ (l : List ℕ). id.1 ++ l) (u.3 ∙ ap (λ (l : List ℕ). l ++ u.2) known.0 ∙ v.3 ∙ ap (λ (l : List ℕ). v.1 ++ l) (rest.3 ∙ ap (λ (l : List ℕ). rest.1 ++ l) rest.5.0 ∙ append-nil rest.1))
          ∙ sym (append_assoc id.1 v.1 rest.1) in
          let placed = fde_place section start end _ u.0 v.1 v.0 v.4 in
          let at : p + length s.1 + length id.1 + length u.1 + length v.1 ≡ p + length head = omega (arith, ap length s.4.0, ap length known.0, length-append id.1 v.1) in
          let inside : IsExtent bytes v.0.program rest.1 =
          subst (λ (e : Extent). IsExtent bytes e rest.1) (sym placed.0) (extent bytes before head rest.1 text after p (p + length s.1 + length id.1 + length u.1 + length v.1) end whole parts place at size) in
          let there = subst (λ (k : ℕ). AreSteps (step (context_of section u.0 Own)) k (first_state u.0 v.0.first) rest.1 rest.4.0 rest.0) (sym (ap (λ (e : Extent). e.at) placed.0)) rest.4.1 in
          let own = subst (λ (k : CieRecord). AreSteps (step (context_of section k Own)) v.0.program.at (first_state k v.0.first) rest.1 rest.4.0 rest.0) (sym placed.1) there in
          let kept_own = subst (λ (k : CieRecord). CieKept section bytes k) (sym placed.1) kept in
          subst (λ (k : FdeRecord). HasPrograms section bytes k) same (programs_of section bytes rest.1 v.0 rest.4.0 rest.0 kept_own inside own)
    ]

-- ---- whole records

-- what stands after the length of a record
record Body (section p : ℕ) (earlier : List CieRecord) (bytes : List ℕ) (r : Record) : Type 0 where
  start : ℕ
  at : ℕ
  end : ℕ
  text : List ℕ
  before : List ℕ
  after : List ℕ
  spelled : (content section earlier start end).Spells at text r
  whole : bytes ≡ before ++ (text ++ after)
  place : at ≡ length before
  size : end ≡ at + length text

body_of : (section p : ℕ) (earlier : List CieRecord) (front bytes before after : List ℕ) (r : Record) → (whole_record section earlier).Spells p front r → bytes ≡ before ++ (front ++ after) → p ≡ length before → Body section p earlier bytes r
unfolding whole_record record_at
body_of section p earlier front bytes before after r s whole place =
    let inner = s.5 in
    let held = inner.5 in
    let parts : front ≡ inner.1 ++ held.2 =
    s.3 ∙ ap (λ (l : List ℕ). l ++ s.2) s.4.0 ∙ inner.3 ∙ ap (λ (l : List ℕ). inner.1 ++ l) (held.3 ∙ ap (λ (l : List ℕ). l ++ held.2) held.4.0) in
    let regrouped : bytes ≡ (before ++ inner.1) ++ (held.2 ++ after) =
    whole ∙ ap (λ (l : List ℕ). before ++ (l ++ after)) parts ∙ ap (λ (l : List ℕ). before ++ l) (append_assoc inner.1 held.2 after) ∙ sym (append_assoc before inner.1 (held.2 ++ after)) in
    record {
      start = s.0;
      at = p + length s.1 + length inner.1 + length held.1;
      end = held.0 + inner.0;
      text = held.2;
      before = before ++ inner.1;
      after = after;
      spelled = held.5.1;
      whole = regrouped;
      place = omega (arith, ap length s.4.0, ap length held.4.0, length-append before inner.1);
      size = omega (arith, held.4.1, held.5.0, ap length held.4.0);
    }

-- a record by itself, by CIEs that were kept
pub record_kept : (section p : ℕ) (earlier : List CieRecord) (bytes before front after : List ℕ) (r : Record) → bytes ≡ before ++ (front ++ after) → p ≡ length before → All (CieKept section bytes) earlier
    → (whole_record section earlier).Spells p front r → RecordKept section bytes r
record_kept section p earlier bytes before front after (Cie c) whole place all s =
    let b = body_of section p earlier front bytes before after (Cie c) s whole place in
    content_cie section b.at earlier b.start b.end b.text bytes b.before b.after c b.spelled b.whole b.place b.size
record_kept section p earlier bytes before front after (Fde f) whole place all s =
    let b = body_of section p earlier front bytes before after (Fde f) s whole place in
    (content_fde section b.at earlier b.start b.end b.text bytes b.before b.after f all b.spelled b.whole b.place b.size, record_ends section p earlier front f s)

-- with the CIEs up to and with it
pub kept_with : (section : ℕ) (bytes : List ℕ) (earlier : List CieRecord) (r : Record) → All (CieKept section bytes) earlier → RecordKept section bytes r → All (CieKept section bytes) (with_record earlier r)
kept_with section bytes earlier (Cie c) all kept = All-append (CieKept section bytes) earlier (c ∷ []) all (All-cons (CieKept section bytes) c [] kept (All-nil (CieKept section bytes)))
kept_with section bytes earlier (Fde f) all kept = all

kept_fdes : (section : ℕ) (bytes : List ℕ) (r : Record) (rs : List Record) → RecordKept section bytes r → All (HasPrograms section bytes) (fdes_of rs) × All EndsLow (fdes_of rs)
    → All (HasPrograms section bytes) (fdes_of (r ∷ rs)) × All EndsLow (fdes_of (r ∷ rs))
kept_fdes section bytes (Cie c) rs kept more = more
kept_fdes section bytes (Fde f) rs kept more = (All-cons (HasPrograms section bytes) f (fdes_of rs) kept.0 more.0, All-cons EndsLow f (fdes_of rs) kept.1 more.1)

records_kept : (section p : ℕ) (earlier : List CieRecord) (text : List ℕ) (rs : List Record) (bytes before after : List ℕ) → All (CieKept section bytes) earlier → AreRecords section p earlier text rs
    → bytes ≡ before ++ (text ++ after) → p ≡ length before → All (HasPrograms section bytes) (fdes_of rs) × All EndsLow (fdes_of rs)
records_kept section p earlier text [] bytes before after all s whole place = (All-nil (HasPrograms section bytes), All-nil EndsLow)
records_kept section p earlier text (r ∷ rs) bytes before after all s whole place =
    let first : bytes ≡ before ++ (s.0 ++ (s.1 ++ after)) = whole ∙ ap (λ (l : List ℕ). before ++ (l ++ after)) s.2 ∙ ap (λ (l : List ℕ). before ++ l) (append_assoc s.0 s.1 after) in
    let kept = record_kept section p earlier bytes before s.0 (s.1 ++ after) r first place all s.3 in
    let more = records_kept section (p + length s.0) (with_record earlier r) s.1 rs bytes (before ++ s.0) after (kept_with section bytes earlier r all kept) s.4 (first ∙ sym (append_assoc before s.0 (s.1 ++ after))) (omega (arith, length-append before s.0)) in
    kept_fdes section bytes r rs kept more

-- ---- sections

pub section_kept : (section : ℕ) (bytes : List ℕ) (fdes : List FdeRecord) → HasFdes section bytes fdes → All (HasPrograms section bytes) fdes × All EndsLow fdes
unfolding HasFdes IsSection
section_kept section bytes fdes s =
    let kept = records_kept section 0 [] s.1.0 s.0 bytes [] s.1.1 (All-nil (CieKept section bytes)) s.1.3 s.1.2 refl in
    subst (λ (fs : List FdeRecord). All (HasPrograms section bytes) fs × All EndsLow fs) s.2 kept

pub programs_of_index : (section : ℕ) (bytes : List ℕ) (fs : List FdeRecord) (i : ℕ) (f : FdeRecord) → All (HasPrograms section bytes) fs → slice_get fs i ≡ Some f → HasPrograms section bytes f
programs_of_index section bytes [] i f all e = absurd cc
programs_of_index section bytes (g ∷ gs) zero f all e = subst (λ (k : FdeRecord). HasPrograms section bytes k) (let same : g ≡ f = cc in same) (all 0 g (omega arith))
programs_of_index section bytes (g ∷ gs) (suc i) f all e = programs_of_index section bytes gs i f (All-tail (HasPrograms section bytes) g gs all) e

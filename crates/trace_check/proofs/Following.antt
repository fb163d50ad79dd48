-- What comes after a frame: one thing, by the image of its line.
use Rattle.std.proofs.Common.{◌≡◌, ℕ, ◌⊎◌, inl, inr, List, Option, Some, None, Bool, true, false, cond, eqb, option_and_then, option_map, IfSome, slice_get, get_or, nat_lt, length, ◌<◌, refl, sym, ◌∙◌, ap, subst, ne_eqb, eq-eqb, true≢false}
use Rattle.std.proofs.lemmas.Bool.{eqb-true, ltb-true}
use Rattle.std.proofs.lemmas.Option.{none-some, same_Some, slice_get_within, slice_get-get_or}
use Rattle.frame_expr.specs.Regions.{RegionData}
use Rattle.frame_parse.specs.Entries.{FdeRecord}
use Rattle.frame_parse.specs.Sections.{SectionData, FdeData, first_cover}
use Rattle.reg_model.specs.declared.span.Member.{Member}
use Rattle.unwind_step.specs.Backtrace.{IsBelow, hit_of, hit_section, fde_in, fde_of, address_kind, HasOutcome, IsCallingFrame, Shows}
use Rattle.unwind_step.specs.Sources.{IsStepIn}
use Rattle.unwind_step.specs.declared.backtrace.End.TheVariants as ends
use Rattle.unwind_step.specs.declared.backtrace.FrameLine.{FrameLine}
use Rattle.unwind_step.specs.declared.frame.AddressKind.{AddressKind}
use Rattle.unwind_step.specs.declared.frame.Frame.{Frame}
use Rattle.unwind_step.specs.declared.next.Stepped.{Stepped}
use Rattle.unwind_step.specs.declared.next.Stepped.TheVariants as stepped
use Rattle.trace_check.specs.declared.next_line.NextLine.{NextLine}
use Rattle.trace_check.specs.declared.next_line.NextLine.TheVariants as nexts
use Rattle.trace_check.specs.NextLines.{ComesAfter, IsNextLine, next_of}

-- the section in which an FDE was found
pub found_in : (o : Option SectionData) (look : ℕ) (fde : FdeData) → option_and_then (fde_in look) o ≡ Some fde → (s : SectionData) × (o ≡ Some s) × (fde_in look s ≡ Some fde)
found_in None look fde e = absurd (none-some fde e)
found_in (Some s) look fde e = (s, refl, e)

-- an FDE that is in a section covers the address
not_covered : (s : SectionData) (look : ℕ) (fde : FdeData) → first_cover look s.fdes ≡ None → fde_in look s ≡ Some fde → ⊥
not_covered s look fde none found =
    let with_section : FdeRecord → FdeData = λ e. record { section = s.address; bytes = s.bytes; entry = e } in
    none-some fde (sym (ap (option_map with_section) none) ∙ found)

module _ (sections : List SectionData) (memory : List RegionData) (count : ℕ) (frame : Frame) (line : FrameLine) where
  abbrev Comes : NextLine → Type 0
  Comes next = ComesAfter sections memory count frame line next

  abbrev Steps : SectionData → Stepped → Bool → Type 0
  Steps s outcome signal = IsStepIn s line.look frame.regs.columns memory outcome signal

  -- what a section says of the frame
  record SaysStep (s : SectionData) (next : NextLine) : Type 0 where
    outcome : Stepped
    signal : Bool
    steps : Steps s outcome signal
    is : next ≡ next_of count outcome signal

  -- why something comes: no image, an image whose section says nothing, or one that says a step
  record ComesIn (next : NextLine) : Type 0 where
    s : SectionData
    at : hit_section sections line.place ≡ Some s
    by : ((first_cover line.look s.fdes ≡ None) × (next ≡ nexts.End ends.NoFde)) ⊎ SaysStep s next

  abbrev Cause : NextLine → Type 0
  Cause next = ((hit_of line.place ≡ None) × (next ≡ nexts.End ends.NoObject)) ⊎ ComesIn next

  by_outcome : (outcome : Stepped) (next : NextLine) (has : HasOutcome sections memory frame line outcome) → next ≡ next_of count outcome has.fde.entry.cie.augmentation.signal → Cause next
  by_outcome outcome next has is =
      let f = found_in (hit_section sections line.place) line.look has.fde has.found in
      inr (record {
        s = f.0;
        at = f.1;
        by = inr (record {
          outcome = outcome;
          signal = has.fde.entry.cie.augmentation.signal;
          steps = record { fde = has.fde; found = f.2; is_next = has.is_next; of = refl };
          is = is;
        });
      })

  by_caller : (caller : Frame) (calls : IsCallingFrame sections memory frame line caller) (next : NextLine) → next ≡ next_of count (stepped.Frame caller.regs) calls.fde.entry.cie.augmentation.signal → Cause next
  by_caller caller calls next is = by_outcome (stepped.Frame caller.regs) next (record { fde = calls.fde; found = calls.found; is_next = calls.is_next }) is

  cause : (next : NextLine) → Comes next → Cause next
  cause (nexts.Frame caller) comes =
      let signal = comes.0.fde.entry.cie.augmentation.signal in
      let made : Frame = record { regs = caller.regs; address = address_kind signal } in
      let kind : nexts.Frame caller ≡ nexts.Frame made = ap (λ (k : AddressKind). nexts.Frame (record { regs = caller.regs; address = k })) comes.0.kind in
      let test : cond (eqb count 256) (nexts.End ends.Long) (nexts.Frame made) ≡ nexts.Frame made = ap (λ (b : Bool). cond b (nexts.End ends.Long) (nexts.Frame made)) (ne_eqb count 256 comes.1) in
      by_caller caller comes.0 (nexts.Frame caller) (kind ∙ sym test)
  cause (nexts.End ends.NoObject) comes = inl (comes, refl)
  cause (nexts.End ends.NoFde) comes = inr (record { s = comes.0; at = comes.1; by = inl (comes.2, refl) })
  cause (nexts.End ends.NoRow) comes = by_outcome stepped.NoRow (nexts.End ends.NoRow) comes refl
  cause (nexts.End ends.Undefined) comes = by_outcome stepped.Undefined (nexts.End ends.Undefined) comes refl
  cause (nexts.End (ends.NoBytes a)) comes = by_outcome (stepped.NoBytes a) (nexts.End (ends.NoBytes a)) comes refl
  cause (nexts.End ends.Long) comes =
      let calls = comes.1.1 in
      let made : Frame = record { regs = comes.1.0.regs; address = address_kind calls.fde.entry.cie.augmentation.signal } in
      let test : cond (eqb count 256) (nexts.End ends.Long) (nexts.Frame made) ≡ nexts.End ends.Long = ap (λ (b : Bool). cond b (nexts.End ends.Long) (nexts.Frame made)) (eq-eqb count 256 comes.0) in
      by_caller comes.1.0 calls (nexts.End ends.Long) (sym test)

  -- ---- nothing else can come

  section_is : (m : Member) (s : SectionData) → hit_of line.place ≡ Some m → slice_get sections m.payload ≡ Some s → hit_section sections line.place ≡ Some s
  section_is m s hit at = ap (option_and_then (λ (m : Member). slice_get sections m.payload)) hit ∙ at

  same_section : (s t : SectionData) → hit_section sections line.place ≡ Some s → hit_section sections line.place ≡ Some t → t ≡ s
  same_section s t at also = same_Some t s (sym also ∙ at)

  same_signal : (s : SectionData) (one other : Stepped) (a b : Bool) → Steps s one a → Steps s other b → b ≡ a
  same_signal s one other a b first second =
      let same : second.fde ≡ first.fde = same_Some second.fde first.fde (sym second.found ∙ first.found) in
      second.of ∙ ap (λ (f : FdeData). f.entry.cie.augmentation.signal) same ∙ sym first.of

  pub only_step : (m : Member) (s : SectionData) → hit_of line.place ≡ Some m → slice_get sections m.payload ≡ Some s → (outcome : Stepped) (signal : Bool) → Steps s outcome signal → ((other : Stepped) (b : Bool) → Steps s other b → other ≡ outcome) → (next : NextLine) → Comes next → next ≡ next_of count outcome signal
  only_step m s hit at outcome signal steps only next comes = elim (cause next comes) [
    | inl by ↦ absurd (none-some m (sym by.0 ∙ hit))
    | inr there ↦
        let same = same_section s there.s (section_is m s hit at) there.at in
        elim there.by [
          | inl by ↦
              let none : first_cover line.look s.fdes ≡ None = subst (λ (t : SectionData). first_cover line.look t.fdes ≡ None) same by.0 in
              absurd (not_covered s line.look steps.fde none steps.found)
          | inr says ↦
              let also = subst (λ (t : SectionData). Steps t says.outcome says.signal) same says.steps in
              says.is ∙ ap (λ (o : Stepped). next_of count o says.signal) (only says.outcome says.signal also) ∙ ap (λ (b : Bool). next_of count outcome b) (same_signal s outcome says.outcome signal says.signal steps also)
        ]
  ]

  -- ---- it comes

  fde_found : (m : Member) (s : SectionData) → hit_of line.place ≡ Some m → slice_get sections m.payload ≡ Some s → (fde : FdeData) → fde_in line.look s ≡ Some fde → fde_of sections line ≡ Some fde
  fde_found m s hit at fde found = ap (option_and_then (fde_in line.look)) (section_is m s hit at) ∙ found

  pub step_comes : (m : Member) (s : SectionData) → hit_of line.place ≡ Some m → slice_get sections m.payload ≡ Some s → (outcome : Stepped) (signal : Bool) → Steps s outcome signal → Comes (next_of count outcome signal)
  step_comes m s hit at stepped.NoRow signal steps = record { fde = steps.fde; found = fde_found m s hit at steps.fde steps.found; is_next = steps.is_next }
  step_comes m s hit at stepped.Undefined signal steps = record { fde = steps.fde; found = fde_found m s hit at steps.fde steps.found; is_next = steps.is_next }
  step_comes m s hit at (stepped.NoBytes a) signal steps = record { fde = steps.fde; found = fde_found m s hit at steps.fde steps.found; is_next = steps.is_next }
  step_comes m s hit at (stepped.Frame regs) signal steps = by_room (eqb count 256) refl
    where
      caller : Frame
      caller = record { regs = regs; address = address_kind signal }

      calls : IsCallingFrame sections memory frame line caller
      calls = record { fde = steps.fde; found = fde_found m s hit at steps.fde steps.found; is_next = steps.is_next; kind = ap address_kind steps.of }

      by_room : (b : Bool) → eqb count 256 ≡ b → Comes (cond b (nexts.End ends.Long) (nexts.Frame caller))
      by_room true full = (eqb-true count 256 full, (caller, calls))
      by_room false room = (calls, λ full. true≢false (sym (eq-eqb count 256 full) ∙ room))

-- an image whose section is there has its number
named_below : (sections : List SectionData) (hit : Option Member) (s : SectionData) → option_and_then (λ m. slice_get sections m.payload) hit ≡ Some s → IfSome hit (λ m. m.payload < length sections)
named_below sections None s at = tt
named_below sections (Some m) s at = slice_get_within sections m.payload s at

pub below_after : (sections : List SectionData) (memory : List RegionData) (count : ℕ) (frame : Frame) (line : FrameLine) (next : NextLine) → ComesAfter sections memory count frame line next → IsBelow (length sections) line.place
below_after sections memory count frame line next comes = elim (cause sections memory count frame line next comes) [
  | inl by ↦ subst (λ (hit : Option Member). IfSome hit (λ m. m.payload < length sections)) (sym by.0) tt
  | inr there ↦ named_below sections (hit_of line.place) there.s there.at
]

-- a section that was read at a place
section_read : (sections : List SectionData) (i : ℕ) (s d : SectionData) → true ≡ nat_lt i (length sections) → s ≡ get_or sections i d → slice_get sections i ≡ Some s
section_read sections i s d inside is = slice_get-get_or sections i d (ltb-true i (length sections) (sym inside)) ∙ ap Some (sym is)

module _ (sections : List SectionData) (memory : List RegionData) (count : ℕ) (frame : Frame) (line : FrameLine) (hit : Option Member) (m : Member) (s d : SectionData) (outcome : Stepped) (signal : Bool) (next : NextLine) where
  -- what is known where a section said a step
  pub record IsStepped : Type 0 where
    pub is_hit : hit ≡ hit_of line.place
    pub found : hit ≡ Some m
    pub inside : true ≡ nat_lt m.payload (length sections)
    pub read : s ≡ get_or sections m.payload d
    pub steps : IsStepIn s line.look frame.regs.columns memory outcome signal
    pub made : next ≡ next_of count outcome signal

  is_next : IsStepped → Shows frame line → IsNextLine sections memory count frame line next
  is_next is shows = record {
    shows = shows;
    comes = subst (ComesAfter sections memory count frame line) (sym is.made) (step_comes sections memory count frame line m s (sym is.is_hit ∙ is.found) (section_read sections m.payload s d is.inside is.read) outcome signal is.steps);
  }

  -- what the step says comes, and nothing else
  pub only_next : IsStepped → Shows frame line → ((other : Stepped) (b : Bool) → IsStepIn s line.look frame.regs.columns memory other b → other ≡ outcome) → IsNextLine sections memory count frame line next × ((other : NextLine) → IsNextLine sections memory count frame line other → Some other ≡ Some next)
  only_next is shows only = (
    is_next is shows,
    λ other also. ap Some (only_step sections memory count frame line m s (sym is.is_hit ∙ is.found) (section_read sections m.payload s d is.inside is.read) outcome signal is.steps only other also.comes ∙ sym is.made),
  )

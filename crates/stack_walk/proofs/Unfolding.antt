-- A walk as a backtrace.
use Rattle.std.proofs.Common.{◌≡◌, Bool, ℕ, zero, suc, ◌+◌, List, [], ◌∷◌, length, map, Option, Some, None, slice_get, refl, sym, ap, subst, ◌∙◌, arith}
use Rattle.std.specs.Prelude.{IfSome, MatchOption}
use Rattle.std.specs.Option.{option_map, option_and_then}
use Rattle.std.specs.List.{AllZip}
use Rattle.std.proofs.lemmas.Option.{slice_get-map, slice_get_within}
use Rattle.frame_expr.specs.Regions.{RegionData}
use Rattle.frame_parse.specs.Sections.{FdeData, SectionData}
use Rattle.reg_model.specs.declared.span.Member.{Member}
use Rattle.unwind_step.specs.Backtrace.{address_kind, HasOutcome, IsCallingFrame, IsEnd, Shows, fde_in, fde_of, hit_of, hit_section}
use Rattle.unwind_step.specs.NextFrame.{IsNextFrame}
use Rattle.unwind_step.specs.declared.backtrace.End.{End}
use Rattle.unwind_step.specs.declared.backtrace.FrameLine.{FrameLine}
use Rattle.unwind_step.specs.declared.frame.Frame.{Frame}
use Rattle.unwind_step.specs.declared.next.Stepped.{Stepped}
use Rattle.unwind_step.specs.declared.next.Stepped.TheVariants as stepped
use Rattle.stack_walk.specs.Modules.{ModuleData, module_at}
use Rattle.stack_walk.specs.StackWalks.{ComesOf, EndsWalk, StepsTo, WalksStack, look_of, shown_as}
use Rattle.stack_walk.specs.Traces.{HitsModule, TellsSame, end_as}
use Rattle.stack_walk.specs.declared.shown.ShownFrame.{ShownFrame}
use Rattle.stack_walk.specs.declared.shown.WalkEnd.{WalkEnd}
use Rattle.stack_walk.specs.declared.shown.WalkEnd.TheVariants.{NoModule, NoFde, Refused, NoRow, Undefined, NoBytes, Room}

abbrev pub sections_of : List ModuleData → List SectionData
sections_of ms = map (λ m. m.section) ms

-- the section of a line is that of its module
hit_there : (ms : List ModuleData) (m : ModuleData) (line : FrameLine) → HitsModule ms line → module_at line.look ms ≡ Some m → hit_section (sections_of ms) line.place ≡ Some m.section
hit_there ms m line hits at = go (hit_of line.place) refl
  where
    go : (hit : Option Member) → hit_of line.place ≡ hit → hit_section (sections_of ms) line.place ≡ Some m.section
    go None is = let none = subst (λ (h : Option Member). MatchOption h (module_at line.look ms ≡ None) (λ member. (x : ModuleData) × (slice_get ms member.payload ≡ Some x) × (module_at line.look ms ≡ Some x))) is hits in absurd cc
    go (Some member) is =
        let found = subst (λ (h : Option Member). MatchOption h (module_at line.look ms ≡ None) (λ member. (x : ModuleData) × (slice_get ms member.payload ≡ Some x) × (module_at line.look ms ≡ Some x))) is hits in
        let same : found.0 ≡ m = cc in
        ap (option_and_then (λ (h : Member). slice_get (sections_of ms) h.payload)) is ∙ slice_get-map (λ (x : ModuleData). x.section) ms member.payload ∙ ap (option_map (λ (x : ModuleData). x.section)) (found.1 ∙ ap Some same)

missed_there : (ms : List ModuleData) (line : FrameLine) → HitsModule ms line → module_at line.look ms ≡ None → hit_of line.place ≡ None
missed_there ms line hits none = go (hit_of line.place) refl
  where
    go : (hit : Option Member) → hit_of line.place ≡ hit → hit_of line.place ≡ None
    go None is = is
    go (Some member) is =
        let found = subst (λ (h : Option Member). MatchOption h (module_at line.look ms ≡ None) (λ member. (x : ModuleData) × (slice_get ms member.payload ≡ Some x) × (module_at line.look ms ≡ Some x))) is hits in
        absurd cc

-- where the line's frame was looked up
looked_up : (f : Frame) (shown : ShownFrame) (ms : List ModuleData) (line : FrameLine) → shown ≡ shown_as f → TellsSame ms shown line → line.look ≡ look_of f
looked_up f shown ms line is tells = rw (tells.look, is) refl

shows : (f : Frame) (shown : ShownFrame) (ms : List ModuleData) (line : FrameLine) → shown ≡ shown_as f → TellsSame ms shown line → Shows f line
shows f shown ms line is tells = record {
  pc = tells.pc ∙ ap (λ (s : ShownFrame). s.pc) is;
  sp = tells.sp ∙ ap (λ (s : ShownFrame). s.sp) is;
  look = rw (tells.look, tells.pc, is) refl;
}

-- what comes of a frame by its module comes of it by the section of its place
outcome : (ms : List ModuleData) (memory : List RegionData) (f : Frame) (signal : Bool) (o : Stepped) (line : FrameLine) → line.look ≡ look_of f → HitsModule ms line → ComesOf ms memory f signal o
    → (fde : FdeData) × (fde_of (sections_of ms) line ≡ Some fde) × IsNextFrame fde line.look f.regs.columns memory o × (signal ≡ fde.entry.cie.augmentation.signal)
outcome ms memory f signal o line look hits comes =
    let m = comes.0 in
    let step = comes.3 in
    let at : module_at line.look ms ≡ Some m = rw look comes.1 in
    let found : fde_in line.look m.section ≡ Some step.fde = rw look step.found in
    let there : fde_of (sections_of ms) line ≡ Some step.fde = ap (option_and_then (fde_in line.look)) (hit_there ms m line hits at) ∙ found in
    (step.fde, there, subst (λ (a : ℕ). IsNextFrame step.fde a f.regs.columns memory o) (sym look) step.is_next, step.of)

calls : (ms : List ModuleData) (memory : List RegionData) (f next : Frame) (line : FrameLine) → line.look ≡ look_of f → HitsModule ms line → StepsTo ms memory f next → IsCallingFrame (sections_of ms) memory f line next
calls ms memory f next line look hits steps =
    let o = outcome ms memory f steps.signal (stepped.Frame next.regs) line look hits steps.comes in
    record { fde = o.0; found = o.1; is_next = o.2; kind = steps.kind ∙ ap address_kind o.3 }

has_outcome : (ms : List ModuleData) (memory : List RegionData) (f : Frame) (line : FrameLine) (o : Stepped) → line.look ≡ look_of f → HitsModule ms line → ((signal : Bool) × ComesOf ms memory f signal o) → HasOutcome (sections_of ms) memory f line o
has_outcome ms memory f line o look hits comes =
    let told = outcome ms memory f comes.0 o line look hits comes.1 in
    record { fde = told.0; found = told.1; is_next = told.2 }

ends : (ms : List ModuleData) (memory : List RegionData) (f stands : Frame) (line : FrameLine) (count : ℕ) (end : WalkEnd) → line.look ≡ look_of f → HitsModule ms line → (end ≡ Room → count ≡ 256)
    → EndsWalk ms memory f end stands → IfSome (end_as end) (IsEnd (sections_of ms) memory count f line)
ends ms memory f stands line count NoModule look hits full is = missed_there ms line hits (rw look is.1)
ends ms memory f stands line count NoFde look hits full is =
    let at : module_at line.look ms ≡ Some is.1.0 = rw look is.1.1 in
    (is.1.0.section, hit_there ms is.1.0 line hits at, rw look is.1.3)
ends ms memory f stands line count Refused look hits full is = tt
ends ms memory f stands line count NoRow look hits full is = has_outcome ms memory f line stepped.NoRow look hits is.1
ends ms memory f stands line count Undefined look hits full is = has_outcome ms memory f line stepped.Undefined look hits is.1
ends ms memory f stands line count (NoBytes a) look hits full is = has_outcome ms memory f line (stepped.NoBytes a) look hits is.1
ends ms memory f stands line count Room look hits full is = (full refl, (stands, calls ms memory f stands line look hits is))

-- frames for the lines of a walk that began at a frame
pub record UnfoldsFrom (ms : List ModuleData) (memory : List RegionData) (f : Frame) (lines : List FrameLine) (count : ℕ) (told : End) : Type 0 where
  pub frames : List Frame
  pub first : slice_get frames 0 ≡ Some f
  pub shown : AllZip Shows frames lines
  pub callers : (i : ℕ) (frame caller : Frame) (line : FrameLine) → slice_get frames i ≡ Some frame → slice_get frames (i + 1) ≡ Some caller → slice_get lines i ≡ Some line → IsCallingFrame (sections_of ms) memory frame line caller
  pub ends : (i : ℕ) (frame : Frame) (line : FrameLine) → i + 1 ≡ length lines → slice_get frames i ≡ Some frame → slice_get lines i ≡ Some line → IsEnd (sections_of ms) memory count frame line told

module _ (ms : List ModuleData) (memory : List RegionData) (count : ℕ) (end : WalkEnd) (told : End) (ends_as : end_as end ≡ Some told) (stands : Frame) (full : end ≡ Room → count ≡ 256) where
  alone : (f : Frame) (s : ShownFrame) (line : FrameLine) → s ≡ shown_as f → TellsSame ms s line → EndsWalk ms memory f end stands → UnfoldsFrom ms memory f (line ∷ []) count told
  alone f s line is tells ended = record {
    frames = f ∷ [];
    first = refl;
    shown = (shows f s ms line is tells, tt);
    callers = λ i frame caller l at next there. absurd (let less = slice_get_within (f ∷ []) (i + 1) caller next in omega (arith, less));
    ends = λ i frame l last at there.
        let nought : i ≡ 0 = omega (arith, last) in
        let here : Some f ≡ Some frame = subst (λ (k : ℕ). slice_get (f ∷ []) k ≡ Some frame) nought at in
        let shown : Some line ≡ Some l = subst (λ (k : ℕ). slice_get (line ∷ []) k ≡ Some l) nought there in
        let same : f ≡ frame = cc in
        let shows_it : line ≡ l = cc in
        let ended_so = subst (λ (e : Option End). IfSome e (IsEnd (sections_of ms) memory count f line)) ends_as (ends ms memory f stands line count end (looked_up f s ms line is tells) tells.place full ended) in
        subst (λ (x : Frame). IsEnd (sections_of ms) memory count x l told) same (subst (λ (x : FrameLine). IsEnd (sections_of ms) memory count f x told) shows_it ended_so);
  }

  after : (f next : Frame) (s : ShownFrame) (line l : FrameLine) (lines : List FrameLine) → s ≡ shown_as f → TellsSame ms s line → StepsTo ms memory f next → UnfoldsFrom ms memory next (l ∷ lines) count told
      → UnfoldsFrom ms memory f (line ∷ l ∷ lines) count told
  after f next s line l lines is tells steps more = record {
    frames = f ∷ more.frames;
    first = refl;
    shown = (shows f s ms line is tells, more.shown);
    callers = calling;
    ends = ending;
  }
    where
      calling : (i : ℕ) (frame caller : Frame) (k : FrameLine) → slice_get (f ∷ more.frames) i ≡ Some frame → slice_get (f ∷ more.frames) (i + 1) ≡ Some caller → slice_get (line ∷ l ∷ lines) i ≡ Some k → IsCallingFrame (sections_of ms) memory frame k caller
      calling zero frame caller k at on there =
          let same : f ≡ frame = cc in
          let told : line ≡ k = cc in
          let came : next ≡ caller = let first = more.first in cc in
          let here = calls ms memory f next line (looked_up f s ms line is tells) tells.place steps in
          subst (λ (x : Frame). IsCallingFrame (sections_of ms) memory frame k x) came (subst (λ (x : FrameLine). IsCallingFrame (sections_of ms) memory frame x next) told (subst (λ (x : Frame). IsCallingFrame (sections_of ms) memory x line next) same here))
      calling (suc i) frame caller k at on there =
          let moved : suc i + 1 ≡ suc (i + 1) = omega arith in
          more.callers i frame caller k at (subst (λ (j : ℕ). slice_get (f ∷ more.frames) j ≡ Some caller) moved on) there

      ending : (i : ℕ) (frame : Frame) (k : FrameLine) → i + 1 ≡ length (line ∷ l ∷ lines) → slice_get (f ∷ more.frames) i ≡ Some frame → slice_get (line ∷ l ∷ lines) i ≡ Some k → IsEnd (sections_of ms) memory count frame k told
      ending zero frame k last at there = absurd (omega (arith, last))
      ending (suc i) frame k last at there = more.ends i frame k (omega (arith, last)) at there

  pub unfolds_from : (f : Frame) (shown : List ShownFrame) (lines : List FrameLine) → WalksStack ms memory f shown end stands → AllZip (TellsSame ms) shown lines → UnfoldsFrom ms memory f lines count told
  unfolds_from f [] lines walks tells = absurd walks
  unfolds_from f (s ∷ shown) [] walks tells = absurd tells
  unfolds_from f (s ∷ []) (line ∷ []) walks tells = alone f s line walks.0 tells.0 walks.1
  unfolds_from f (s ∷ []) (line ∷ l ∷ lines) walks tells = absurd tells.1
  unfolds_from f (s ∷ t ∷ shown) (line ∷ []) walks tells = absurd tells.1
  unfolds_from f (s ∷ t ∷ shown) (line ∷ l ∷ lines) walks tells =
      after f walks.1.0 s line l lines walks.0 tells.0 walks.1.1 (unfolds_from walks.1.0 (t ∷ shown) (l ∷ lines) walks.1.2 tells.1)

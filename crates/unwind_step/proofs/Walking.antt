-- One more frame of a walk, and what a whole walk makes of a trace.
use Rattle.std.proofs.Common.{◌≡◌, ℕ, ◌+◌, ◌-◌, ◌<◌, ◌≤◌, inl, inr, List, [], ◌∷◌, ◌++◌, length, All, Option, Some, None, IfSome, ◌≢◌, slice_get, slice_index_or, refl, sym, ◌∙◌, ap, subst, length-append, arith}
use Rattle.std.specs.List.{AllZip}
use Rattle.std.proofs.lemmas.List.Elements.{All-push}
use Rattle.std.proofs.lemmas.Option.{get_or_from_slice_get, slice_get_within}
use Rattle.std.proofs.lemmas.Slice.Zip.{AllZip-long}
use Rattle.frame_expr.specs.declared.regs.Regs.{Regs}
use Rattle.frame_expr.specs.Regions.{RegionData}
use Rattle.frame_parse.specs.Sections.{SectionData}
use Rattle.reg_model.specs.declared.answer.Place.{Place}
use Rattle.reg_model.specs.declared.span.Member.{Member}
use Rattle.reg_model.specs.Receipt.{IsPlace}
use Rattle.unwind_step.specs.declared.backtrace.End.{End}
use Rattle.unwind_step.specs.declared.backtrace.FrameLine.{FrameLine}
use Rattle.unwind_step.specs.declared.frame.Frame.{Frame}
use Rattle.unwind_step.specs.Backtrace.{hit_of, innermost, AreFrames, IsBelow, Shows, IsCallingFrame, IsEnd, Unfolds}
use Rattle.unwind_step.specs.Finders.{GoesThrough}
use Rattle.unwind_step.proofs.LastItems.{at_end, last-push, same}
use Rattle.unwind_step.specs.Walks.{WalkData, IsAsked, IsUnasked, IsWalked}

pub GoesThrough-push : {A : Type 0} (answers : A → ℕ → Place → A → Type 0) (before : A) (lines : List FrameLine) (last : A) (line : FrameLine) (end : A) → GoesThrough answers before lines last → answers last line.look line.place end → GoesThrough answers before (lines ++ line ∷ []) end
GoesThrough-push {A} answers before [] last line end goes answered =
    let P : A → Type 0 = λ a. (next : A) × answers a line.look line.place next × (next ≡ end) in
    subst P (sym goes) (end, answered, refl)
GoesThrough-push answers before (first ∷ lines) last line end goes answered =
    (goes.0, goes.1, GoesThrough-push answers goes.0 lines last line end goes.2 answered)

Shows-push : (frames : List Frame) (lines : List FrameLine) (frame : Frame) (line : FrameLine) → AllZip Shows frames lines → Shows frame line → AllZip Shows (frames ++ frame ∷ []) (lines ++ line ∷ [])
Shows-push [] [] frame line all here = (here, tt)
Shows-push [] (l ∷ lines) frame line all here = absurd all
Shows-push (f ∷ frames) [] frame line all here = absurd all
Shows-push (f ∷ frames) (l ∷ lines) frame line all here = (all.0, Shows-push frames lines frame line all.1 here)

-- each further item comes of the one before it and of that one's in the second list, also with one more
comes_more : {A B : Type 0} (R : A → B → A → Type 0) (xs : List A) (ys : List B) (last next : A) (shown more : B) → length ys ≡ length xs → slice_get xs (length xs - 1) ≡ Some last → slice_get ys (length ys - 1) ≡ Some shown → R last shown next → ((i : ℕ) (x next : A) (y : B) → slice_get xs i ≡ Some x → slice_get xs (i + 1) ≡ Some next → slice_get ys i ≡ Some y → R x y next) → (i : ℕ) (x next' : A) (y : B) → slice_get (xs ++ next ∷ []) i ≡ Some x → slice_get (xs ++ next ∷ []) (i + 1) ≡ Some next' → slice_get (ys ++ more ∷ []) i ≡ Some y → R x y next'
comes_more {A} {B} R xs ys last next shown more long last_x last_y here before i x next' y at after is =
    elim (at_end xs next next' (i + 1) after) [
      | inl inside ↦
          let less = slice_get_within xs (i + 1) next' inside in
          elim (at_end xs next x i at) [
            | inl x_before ↦ elim (at_end ys more y i is) [
              | inl y_before ↦ before i x next' y x_before inside y_before
              | inr y_last ↦ absurd (omega (arith, less, y_last.0, long))
            ]
            | inr x_last ↦ absurd (omega (arith, less, x_last.0))
          ]
      | inr newest ↦
          elim (at_end xs next x i at) [
            | inl x_before ↦ elim (at_end ys more y i is) [
              | inl y_before ↦
                  let x_is : last ≡ x = same xs last x (length xs - 1) i last_x x_before (omega (arith, newest.0)) in
                  let y_is : shown ≡ y = same ys shown y (length ys - 1) i last_y y_before (omega (arith, newest.0, long)) in
                  subst (R x y) newest.1 (subst (λ b. R x b next) y_is (subst (λ a. R a shown next) x_is here))
              | inr y_last ↦ absurd (omega (arith, newest.0, y_last.0, long))
            ]
            | inr x_last ↦ absurd (omega (arith, newest.0, x_last.0))
          ]
    ]

module _ (sections : List SectionData) (memory : List RegionData) (regs : Regs) where
  -- the recorded frame, with its line
  alone : (frame : Frame) (line : FrameLine) → frame ≡ innermost regs → Shows frame line → AreFrames sections memory regs (frame ∷ []) (line ∷ [])
  alone frame line is shows = record {
    first = ap Some is;
    shown = (shows, tt);
    callers = λ i x caller y at next shown. absurd (let less = slice_get_within (frame ∷ []) (i + 1) caller next in omega (arith, less));
  }

  -- the caller of the last frame, with its line
  one_more : (frames : List Frame) (lines : List FrameLine) (last caller : Frame) (shown line : FrameLine) → AreFrames sections memory regs frames lines → slice_get frames (length frames - 1) ≡ Some last → slice_get lines (length lines - 1) ≡ Some shown → IsCallingFrame sections memory last shown caller → Shows caller line → AreFrames sections memory regs (frames ++ caller ∷ []) (lines ++ line ∷ [])
  one_more [] lines last caller shown line are last_frame last_line calls shows = cc
  one_more (first ∷ frames) lines last caller shown line are last_frame last_line calls shows = record {
    first = are.first;
    shown = Shows-push (first ∷ frames) lines caller line are.shown shows;
    callers = comes_more (IsCallingFrame sections memory) (first ∷ frames) lines last caller shown line (AllZip-long Shows (first ∷ frames) lines are.shown) last_frame last_line calls are.callers;
  }

below_more : (bound more : ℕ) (hit : Option Member) → bound ≤ more → IfSome hit (λ m. m.payload < bound) → IfSome hit (λ m. m.payload < more)
below_more bound more None within below = tt
below_more bound more (Some m) within below = omega (arith, within, below)

-- the frame at which a walk stands is asked for
asked_here : (walk : WalkData) (line : FrameLine) → IsUnasked walk → Shows walk.frame line → IsBelow (length walk.sections) line.place → IsAsked (record walk { lines = walk.lines ++ line ∷ [] })
asked_here walk line unasked shows below =
    let count : length (walk.lines ++ line ∷ []) ≤ 256 = (let room = unasked.room in omega (arith, room, length-append walk.lines (line ∷ []))) in
    elim unasked.stands [
      | inl start ↦ record {
        frames = walk.frame ∷ [];
        are_frames = subst (λ (lines : List FrameLine). AreFrames walk.sections walk.memory walk.regs (walk.frame ∷ []) (lines ++ line ∷ [])) (sym start.lines) (alone walk.sections walk.memory walk.regs walk.frame line start.frame shows);
        last_frame = refl;
        line = line;
        last_line = last-push walk.lines line;
        below = below;
        count = count;
      }
      | inr there ↦ record {
        frames = there.asked.frames ++ walk.frame ∷ [];
        are_frames = one_more walk.sections walk.memory walk.regs there.asked.frames walk.lines there.callee walk.frame there.asked.line line there.asked.are_frames there.asked.last_frame there.asked.last_line there.calls shows;
        last_frame = last-push there.asked.frames walk.frame;
        line = line;
        last_line = last-push walk.lines line;
        below = below;
        count = count;
      }
    ]

-- A walk's fields are what is seen of it. These say what a step makes of it.
pub asked_more : (seen walk : WalkData) → seen ≡ walk → IsUnasked walk → (line : FrameLine) (bound : ℕ) → Shows seen.frame line → bound ≤ length walk.sections → IsBelow bound line.place → (lines : List FrameLine) → lines ≡ seen.lines ++ line ∷ [] → IsAsked (record seen { lines = lines })
asked_more seen walk e unasked line bound shows within below lines is =
    let here : IsUnasked seen = subst IsUnasked (sym e) unasked in
    let more : bound ≤ length seen.sections = subst (λ (w : WalkData). bound ≤ length w.sections) (sym e) within in
    subst (λ (ls : List FrameLine). IsAsked (record seen { lines = ls })) (sym is) (asked_here seen line here shows (below_more bound (length seen.sections) (hit_of line.place) more below))

pub queries_more : {A : Type 0} (answers : A → ℕ → Place → A → Type 0) (seen walk : WalkData) → seen ≡ walk → (line : FrameLine) (lines : List FrameLine) → lines ≡ seen.lines ++ line ∷ [] → (before last end : A) → answers last line.look line.place end → GoesThrough answers before walk.lines last → GoesThrough answers before lines end
queries_more answers seen walk e line lines is before last end answered goes =
    subst (λ (ls : List FrameLine). GoesThrough answers before ls end) (sym is) (GoesThrough-push answers before seen.lines last line end (subst (λ (w : WalkData). GoesThrough answers before w.lines last) (sym e) goes) answered)

pub halves_more : (seen walk : WalkData) → seen ≡ walk → (line : FrameLine) (lines : List FrameLine) → lines ≡ seen.lines ++ line ∷ [] → IsPlace line.place → All (λ l. IsPlace l.place) walk.lines → All (λ l. IsPlace l.place) lines
halves_more seen walk e line lines is here all =
    subst (All (λ l. IsPlace l.place)) (sym is) (All-push (λ l. IsPlace l.place) seen.lines line (subst (λ (w : WalkData). All (λ l. IsPlace l.place) w.lines) (sym e) all) here)

-- the last line of a walk, read at its place
line_read : (walk : WalkData) (asked : IsAsked walk) (line : FrameLine) (n : ℕ) → n ≡ length walk.lines - 1 → line ≡ slice_index_or walk.lines n line → line ≡ asked.line
line_read walk asked line n last is =
    is ∙ get_or_from_slice_get walk.lines n asked.line line (subst (λ k. slice_get walk.lines k ≡ Some asked.line) (sym last) asked.last_line)

-- a walk ends here, as the last line has it
pub ends_here : (seen walk : WalkData) → seen ≡ walk → IsAsked walk → (line : FrameLine) (n : ℕ) → n ≡ length seen.lines - 1 → line ≡ slice_index_or seen.lines n line → (end : End) → IsEnd seen.sections seen.memory (length seen.lines) seen.frame line end → IsWalked walk end
ends_here seen walk e asked line n last is end ends =
    let here : IsAsked seen = subst IsAsked (sym e) asked in
    subst (λ (w : WalkData). IsWalked w end) e (record {
      asked = here;
      ends = subst (λ (l : FrameLine). IsEnd seen.sections seen.memory (length seen.lines) seen.frame l end) (line_read seen here line n last is) ends;
    })

-- a walk goes up to the caller
pub goes_up : (seen walk : WalkData) → seen ≡ walk → IsAsked walk → (line : FrameLine) (n : ℕ) → n ≡ length seen.lines - 1 → line ≡ slice_index_or seen.lines n line → (caller : Frame) → IsCallingFrame seen.sections seen.memory seen.frame line caller → length seen.lines ≢ 256 → IsUnasked (record seen { frame = caller })
goes_up seen walk e asked line n last is caller calls room =
    let here : IsAsked seen = subst IsAsked (sym e) asked in
    let count = here.count in
    record {
      stands = inr (record {
        callee = seen.frame;
        asked = here;
        calls = subst (λ (l : FrameLine). IsCallingFrame seen.sections seen.memory seen.frame l caller) (line_read seen here line n last is) calls;
      });
      room = omega (arith, count, room);
    }

-- what a walk that ended told is a trace
trace_of : (walk : WalkData) (end : End) → IsWalked walk end → Unfolds walk.sections walk.memory walk.regs (record { frames = walk.lines; end = end })
trace_of walk end walked =
    let asked = walked.asked in
    let long = AllZip-long Shows asked.frames walk.lines asked.are_frames.shown in
    record {
      frames = asked.frames;
      are_frames = asked.are_frames;
      ends = λ i frame line last at is.
          let frame_is : walk.frame ≡ frame = same asked.frames walk.frame frame (length asked.frames - 1) i asked.last_frame at (omega (arith, last, long)) in
          let line_is : asked.line ≡ line = same walk.lines asked.line line (length walk.lines - 1) i asked.last_line is (omega (arith, last)) in
          subst (λ f. IsEnd walk.sections walk.memory (length walk.lines) f line end) frame_is (subst (λ l. IsEnd walk.sections walk.memory (length walk.lines) walk.frame l end) line_is walked.ends);
      count = asked.count;
    }

pub unfolded : (walk : WalkData) (sections : List SectionData) (memory : List RegionData) (regs : Regs) (lines : List FrameLine) (end : End) → walk.sections ≡ sections → walk.memory ≡ memory → walk.regs ≡ regs → lines ≡ walk.lines → IsWalked walk end → Unfolds sections memory regs (record { frames = lines; end = end })
unfolded walk sections memory regs lines end same_sections same_memory same_regs same_lines walked =
    subst (λ (s : List SectionData). Unfolds s memory regs (record { frames = lines; end = end })) same_sections
    (subst (λ (m : List RegionData). Unfolds walk.sections m regs (record { frames = lines; end = end })) same_memory
    (subst (λ (r : Regs). Unfolds walk.sections walk.memory r (record { frames = lines; end = end })) same_regs
    (subst (λ (ls : List FrameLine). Unfolds walk.sections walk.memory walk.regs (record { frames = ls; end = end })) (sym same_lines) (trace_of walk end walked))))

-- One more line that a walk goes through, and what follows of where it stands.
use Rattle.std.proofs.Common.{◌≡◌, ◌≢◌, ℕ, zero, suc, ◌+◌, ◌-◌, ◌<◌, List, [], ◌∷◌, ◌++◌, length, Some, slice_get, slice_index, slice_index_or, inl, refl, sym, ◌∙◌, ap, subst, arith, length-append, append_assoc, append-nil, le_refl}
use Rattle.std.specs.List.{AllZip}
use Rattle.std.proofs.lemmas.Option.{get_or_from_slice_get, slice_get-get_or, slice_get_within, none-some, same_Some}
use Rattle.std.proofs.lemmas.Slice.Zip.{AllZip-long}
use Rattle.frame_expr.specs.declared.regs.Regs.{Regs}
use Rattle.frame_expr.specs.Regions.{RegionData}
use Rattle.frame_expr.specs.Registers.{stack_pointer_column, return_address_column}
use Rattle.frame_parse.specs.Sections.{SectionData}
use Rattle.reg_model.proofs.Histories.{slice_get-next}
use Rattle.reg_model.specs.declared.answer.Found.TheVariants.{Miss}
use Rattle.unwind_step.proofs.LastItems.{last-push}
use Rattle.unwind_step.proofs.Walking.{asked_more, goes_up, ends_here, unfolded}
use Rattle.unwind_step.specs.Backtrace.{TraceData, Unfolds, IsBelow, IsEnd, Shows, innermost, lookup_address}
use Rattle.unwind_step.specs.Walks.{WalkData, IsAsked, IsUnasked, IsWalked}
use Rattle.unwind_step.specs.declared.backtrace.End.{End}
use Rattle.unwind_step.specs.declared.backtrace.End.TheVariants as ends
use Rattle.unwind_step.specs.declared.backtrace.FrameLine.{FrameLine}
use Rattle.unwind_step.specs.declared.frame.Frame.{Frame}
use Rattle.trace_check.specs.declared.next_line.NextLine.{NextLine}
use Rattle.trace_check.specs.declared.next_line.NextLine.TheVariants as nexts
use Rattle.trace_check.specs.Departures.{BeginsUnfolding}
use Rattle.trace_check.specs.NextLines.{IsNextLine, walk_at, StandsBefore, Continues, IsReached}
use Rattle.trace_check.proofs.Following.{below_after}

not_empty : {X : Type 0} (x : X) (xs : List X) → x ∷ xs ≢ []
not_empty x xs e = let long : length (x ∷ xs) ≡ 0 = ap length e in omega (arith, long)

pub at_place : {X : Type 0} (xs : List X) (i : ℕ) → i < length xs → (x : X) × (slice_get xs i ≡ Some x)
at_place [] i less = absurd (omega (arith, less))
at_place (x ∷ xs) i less = (_, slice_get-get_or (x ∷ xs) i x less)

pub shown_at : (frames : List Frame) (lines : List FrameLine) (i : ℕ) (frame : Frame) (line : FrameLine) → AllZip Shows frames lines → slice_get frames i ≡ Some frame → slice_get lines i ≡ Some line → Shows frame line
shown_at [] lines i frame line all at is = absurd (none-some frame at)
shown_at (f ∷ frames) [] i frame line all at is = absurd all
shown_at (f ∷ frames) (l ∷ lines) zero frame line all at is = subst (λ (k : Frame). Shows k line) (same_Some f frame at) (subst (λ (k : FrameLine). Shows f k) (same_Some l line is) all.0)
shown_at (f ∷ frames) (l ∷ lines) (suc i) frame line all at is = shown_at frames lines i frame line all.1 at is

module _ (sections : List SectionData) (memory : List RegionData) (regs : Regs) where
  abbrev Walk : List FrameLine → Frame → WalkData
  Walk lines frame = walk_at sections memory regs lines frame

  -- ---- where a walk stands

  -- the frame at which a walk stands is asked for, with a line that shows it
  asked_for : (lines : List FrameLine) (frame : Frame) (line : FrameLine) → IsUnasked (Walk lines frame) → Shows frame line → IsBelow (length sections) line.place → IsAsked (Walk (lines ++ line ∷ []) frame)
  asked_for lines frame line unasked shows below = asked_more (Walk lines frame) (Walk lines frame) refl unasked line (length sections) shows (le_refl (length sections)) below (lines ++ line ∷ []) refl

  last_line : (lines : List FrameLine) (line : FrameLine) → line ≡ slice_index_or (lines ++ line ∷ []) (length (lines ++ line ∷ []) - 1) line
  last_line lines line = sym (get_or_from_slice_get (lines ++ line ∷ []) (length (lines ++ line ∷ []) - 1) line line (last-push lines line))

  counted : (lines : List FrameLine) (line : FrameLine) → length (lines ++ line ∷ []) ≡ length lines + 1
  counted lines line = length-append lines (line ∷ [])

  stands_more : (lines : List FrameLine) (frame : Frame) (line : FrameLine) → IsUnasked (Walk lines frame) → (next : NextLine) → IsNextLine sections memory (length lines + 1) frame line next → StandsBefore sections memory regs (lines ++ line ∷ []) next
  stands_more lines frame line unasked (nexts.Frame caller) is =
      let more = lines ++ line ∷ [] in
      let asked = asked_for lines frame line unasked is.shows (below_after sections memory (length lines + 1) frame line (nexts.Frame caller) is.comes) in
      goes_up (Walk more frame) (Walk more frame) refl asked line (length more - 1) refl (last_line lines line) caller is.comes.0 (λ full. is.comes.1 (sym (counted lines line) ∙ full))
  stands_more lines frame line unasked (nexts.End end) is =
      let more = lines ++ line ∷ [] in
      let asked = asked_for lines frame line unasked is.shows (below_after sections memory (length lines + 1) frame line (nexts.End end) is.comes) in
      (frame, ends_here (Walk more frame) (Walk more frame) refl asked line (length more - 1) refl (last_line lines line) end (subst (λ (n : ℕ). IsEnd sections memory n frame line end) (sym (counted lines line)) is.comes))

  -- a walk that ended is a trace
  pub ended : (lines : List FrameLine) (frame : Frame) (end : End) → IsWalked (Walk lines frame) end → Unfolds sections memory regs (record { frames = lines; end = end })
  ended lines frame end walked = unfolded (Walk lines frame) sections memory regs lines end refl refl refl refl walked

  -- the line of a frame whose image isn't found
  abbrev line_without_image : Frame → FrameLine
  line_without_image frame =
      let pc = slice_index frame.regs.columns return_address_column in
      record {
        pc = pc;
        sp = slice_index frame.regs.columns stack_pointer_column;
        look = lookup_address frame.address pc;
        place = record { registered = Miss 0; loaded = Some (Miss 0) };
      }

  -- lines after which a walk stands somewhere begin a trace that unfolds
  pub begins_here : (lines : List FrameLine) (next : NextLine) → StandsBefore sections memory regs lines next → BeginsUnfolding sections memory regs lines
  begins_here lines (nexts.End end) stands = record {
    trace = record { frames = lines; end = end };
    unfolds = ended lines stands.0 end stands.1;
    rest = [];
    begins = sym (append-nil lines);
  }
  begins_here lines (nexts.Frame frame) unasked = begun (line_without_image frame) (record { shows = record { pc = refl; sp = refl; look = refl }; comes = refl })
    where
      begun : (line : FrameLine) → IsNextLine sections memory (length lines + 1) frame line (nexts.End ends.NoObject) → BeginsUnfolding sections memory regs lines
      begun line is =
          let stands = stands_more lines frame line unasked (nexts.End ends.NoObject) is in
          record {
            trace = record { frames = lines ++ line ∷ []; end = ends.NoObject };
            unfolds = ended (lines ++ line ∷ []) stands.0 ends.NoObject stands.1;
            rest = line ∷ [];
            begins = refl;
          }

  -- ---- how a trace that unfolds goes on

  -- it shows this line after these ones: then it goes on with what comes of the frame
  goes_on : (lines : List FrameLine) (frame : Frame) (line : FrameLine) (trace : TraceData) (unfolds : Unfolds sections memory regs trace) (rest : List FrameLine) → trace.frames ≡ lines ++ line ∷ rest → slice_get unfolds.frames (length lines) ≡ Some frame → (next : NextLine) × IsNextLine sections memory (length lines + 1) frame line next × Continues unfolds.frames (length lines + 1) trace.end rest next
  goes_on lines frame line trace unfolds rest begins at =
      let are = unfolds.are_frames in
      let is : slice_get trace.frames (length lines) ≡ Some line = subst (λ (ls : List FrameLine). slice_get ls (length lines) ≡ Some line) (sym begins) (slice_get-next lines line rest) in
      let shows = shown_at unfolds.frames trace.frames (length lines) frame line are.shown at is in
      let long = AllZip-long Shows unfolds.frames trace.frames are.shown in
      by_rest rest (ap length begins ∙ length-append lines (line ∷ rest)) long is shows
    where
      by_rest : (rest : List FrameLine) → length trace.frames ≡ length lines + length (line ∷ rest) → length trace.frames ≡ length unfolds.frames → slice_get trace.frames (length lines) ≡ Some line → Shows frame line → (next : NextLine) × IsNextLine sections memory (length lines + 1) frame line next × Continues unfolds.frames (length lines + 1) trace.end rest next
      by_rest [] all long is shows =
          let last : length lines + 1 ≡ length trace.frames = omega (arith, all) in
          let ends = subst (λ (n : ℕ). IsEnd sections memory n frame line trace.end) (sym last) (unfolds.ends (length lines) frame line last at is) in
          (nexts.End trace.end, record { shows = shows; comes = ends }, (refl, refl))
      by_rest (more ∷ rest) all long is shows =
          let count = unfolds.count in
          let caller = at_place unfolds.frames (length lines + 1) (omega (arith, all, long)) in
          let calls = unfolds.are_frames.callers (length lines) frame caller.0 line at caller.1 is in
          (nexts.Frame caller.0, record { shows = shows; comes = (calls, λ full. omega (arith, full, all, count)) }, (not_empty more rest, caller.1))

  -- ---- one line more

  pub reached_first : IsReached sections memory regs [] (nexts.Frame (innermost regs))
  reached_first = record {
    stands = record { stands = inl (record { frame = refl; lines = refl }); room = omega arith };
    only = λ trace unfolds rest begins.
        let long = AllZip-long Shows unfolds.frames trace.frames unfolds.are_frames.shown in
        let some = slice_get_within unfolds.frames 0 (innermost regs) unfolds.are_frames.first in
        (λ none. let empty : length trace.frames ≡ 0 = ap length (begins ∙ none) in omega (arith, empty, long, some), unfolds.are_frames.first);
  }

  pub reached_more : (lines : List FrameLine) (frame : Frame) (line : FrameLine) (next : NextLine) → IsReached sections memory regs lines (nexts.Frame frame) → IsNextLine sections memory (length lines + 1) frame line next → ((other : NextLine) → IsNextLine sections memory (length lines + 1) frame line other → other ≡ next) → IsReached sections memory regs (lines ++ line ∷ []) next
  reached_more lines frame line next reached is only = record {
    stands = stands_more lines frame line reached.stands next is;
    only = λ trace unfolds rest begins.
        let split : trace.frames ≡ lines ++ line ∷ rest = begins ∙ append_assoc lines (line ∷ []) rest in
        let before = reached.only trace unfolds (line ∷ rest) split in
        let on = goes_on lines frame line trace unfolds rest split before.1 in
        let here : Continues unfolds.frames (length lines + 1) trace.end rest next = subst (Continues unfolds.frames (length lines + 1) trace.end rest) (only on.0 on.1) on.2 in
        subst (λ (n : ℕ). Continues unfolds.frames n trace.end rest next) (sym (counted lines line)) here;
  }

  -- ---- no trace begins so

  -- the lines before it end
  pub none_after_end : (lines : List FrameLine) (end : End) (line : FrameLine) → IsReached sections memory regs lines (nexts.End end) → ¬ BeginsUnfolding sections memory regs (lines ++ line ∷ [])
  none_after_end lines end line reached begins =
      let split = begins.begins ∙ append_assoc lines (line ∷ []) begins.rest in
      not_empty line begins.rest (reached.only begins.trace begins.unfolds (line ∷ begins.rest) split).0

  -- nothing comes of the line
  pub none_with_line : (lines : List FrameLine) (frame : Frame) (line : FrameLine) → IsReached sections memory regs lines (nexts.Frame frame) → ((other : NextLine) → ¬ IsNextLine sections memory (length lines + 1) frame line other) → ¬ BeginsUnfolding sections memory regs (lines ++ line ∷ [])
  none_with_line lines frame line reached none begins =
      let split = begins.begins ∙ append_assoc lines (line ∷ []) begins.rest in
      let before = reached.only begins.trace begins.unfolds (line ∷ begins.rest) split in
      let on = goes_on lines frame line begins.trace begins.unfolds begins.rest split before.1 in
      none on.0 on.1

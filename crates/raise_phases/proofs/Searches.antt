-- One more frame of a search, and what a search makes of a raise.
use Rattle.std.proofs.Common.{◌≡◌, ℕ, ◌+◌, ◌-◌, ◌<◌, inl, inr, List, [], ◌∷◌, ◌++◌, length, All, Some, slice_get, refl, sym, ◌∙◌, ap, subst, length-append, arith}
use Rattle.std.proofs.lemmas.List.{map-append, length-map}
use Rattle.std.proofs.lemmas.List.Elements.{All-push}
use Rattle.std.proofs.lemmas.Option.{get_or_from_slice_get, slice_get_within}
use Rattle.std.proofs.lemmas.Slice.Zip.{AllZip-long}
use Rattle.frame_expr.specs.declared.regs.Regs.{Regs}
use Rattle.frame_expr.specs.Regions.{RegionData}
use Rattle.frame_parse.specs.Sections.{SectionData}
use Rattle.reg_model.specs.declared.answer.Place.{Place}
use Rattle.reg_model.specs.Receipt.{IsPlace}
use Rattle.unwind_step.specs.declared.backtrace.End.{End}
use Rattle.unwind_step.specs.declared.backtrace.FrameLine.{FrameLine}
use Rattle.unwind_step.specs.declared.frame.Frame.{Frame}
use Rattle.unwind_step.specs.Backtrace.{AreFrames, IsEnd, Shows}
use Rattle.unwind_step.specs.Finders.{GoesThrough}
use Rattle.unwind_step.specs.Walks.{WalkData, IsAsked, IsWalked}
use Rattle.unwind_step.proofs.Walking.{GoesThrough-push}
use Rattle.unwind_step.proofs.LastItems.{at_end, last-push, same}
use Rattle.raise_phases.specs.declared.judgement.SearchEnd.{SearchEnd}
use Rattle.raise_phases.specs.declared.judgement.SearchEnd.TheVariants as searches
use Rattle.raise_phases.specs.declared.judgement.Judgement.{Judgement}
use Rattle.raise_phases.specs.declared.raised.Phase.{Phase}
use Rattle.raise_phases.specs.declared.raised.RaiseEnd.TheVariants as ends
use Rattle.raise_phases.specs.Raising.{judged, lines_of, verdict_told, Passes, StopsWith, IsSearchEnd, SearchUnfolds}

pub lines_of-push : (phases : List Phase) (phase : Phase) → lines_of (phases ++ phase ∷ []) ≡ lines_of phases ++ phase.line ∷ []
lines_of-push phases phase = map-append (λ p. p.line) phases (phase ∷ [])

-- the finder went through the lines of one list and then through those of another
pub GoesThrough-append : {A : Type 0} (answers : A → ℕ → Place → A → Type 0) (before : A) (first : List FrameLine) (between : A) (second : List FrameLine) (end : A) → GoesThrough answers before first between → GoesThrough answers between second end → GoesThrough answers before (first ++ second) end
GoesThrough-append {A} answers before [] between second end goes on =
    subst (λ a. GoesThrough answers a second end) (sym goes) on
GoesThrough-append answers before (line ∷ first) between second end goes on =
    (goes.0, goes.1, GoesThrough-append answers goes.0 first between second end goes.2 on)

-- the last line of a walk is that of the frame that was asked for
pub asked_line : (walk : WalkData) (asked : IsAsked walk) (lines : List FrameLine) (line : FrameLine) → walk.lines ≡ lines ++ line ∷ [] → asked.line ≡ line
asked_line walk asked lines line is =
    let there : slice_get walk.lines (length walk.lines - 1) ≡ Some line = subst (λ (ls : List FrameLine). slice_get ls (length ls - 1) ≡ Some line) (sym is) (last-push lines line) in
    same walk.lines asked.line line (length walk.lines - 1) (length walk.lines - 1) asked.last_line there refl

module _ (sections : List SectionData) (memory : List RegionData) (kind : ℕ) where
  -- a table that stops the search ends it
  stopped : (count : ℕ) (frame : Frame) (line : FrameLine) (i : ℕ) (end : SearchEnd) → i ≡ count - 1 → StopsWith (judged sections memory kind line) i end → IsSearchEnd sections memory kind count frame line end
  stopped count frame line i (searches.Handler k pad filter) last stops = (stops.0, stops.1 ∙ last)
  stopped count frame line i (searches.Failed (ends.Uncaught e)) last stops = absurd stops
  stopped count frame line i (searches.Failed (ends.Terminate k)) last stops = (stops.0, stops.1 ∙ last)
  stopped count frame line i (searches.Failed (ends.NoTable k)) last stops = (stops.0, stops.1 ∙ last)
  stopped count frame line i (searches.Failed (ends.BadTable k f)) last stops = (stops.0, stops.1 ∙ last)
  stopped count frame line i (searches.Failed (ends.Changed k first second)) last stops = absurd stops
  stopped count frame line i (searches.Failed (ends.Caught k pad filter)) last stops = absurd stops

  -- what holds of each phase before the last one
  before_last : (P : Phase → Type 0) (before : List Phase) (last : Phase) → All P before → (i : ℕ) (phase : Phase) → i + 1 < length (before ++ last ∷ []) → slice_get (before ++ last ∷ []) i ≡ Some phase → P phase
  before_last P before last all i phase less is =
      elim (at_end before last phase i is) [
        | inl there ↦
            let inside = slice_get_within before i phase there in
            subst P (get_or_from_slice_get before i phase phase there) (all i phase inside)
        | inr newest ↦ absurd (omega (arith, less, newest.0, length-append before (last ∷ [])))
      ]

  -- what a search knows of a frame
  abbrev pub IsJudged : Phase → Type 0
  IsJudged p = p.verdict ≡ verdict_told (judged sections memory kind p.line)

  abbrev pub IsPassed : Phase → Type 0
  IsPassed p = Passes (judged sections memory kind p.line)

  pub judged_more : (phases more : List Phase) (phase : Phase) (judgement : Judgement) → more ≡ phases ++ phase ∷ [] → phase.verdict ≡ verdict_told judgement → judgement ≡ judged sections memory kind phase.line → All IsJudged phases → All IsJudged more
  judged_more phases more phase judgement is told by all =
      subst (All IsJudged) (sym is) (All-push IsJudged phases phase all (told ∙ ap verdict_told by))

  pub passed_more : (phases more : List Phase) (phase : Phase) (judgement : Judgement) → more ≡ phases ++ phase ∷ [] → Passes judgement → judgement ≡ judged sections memory kind phase.line → All IsPassed phases → All IsPassed more
  passed_more phases more phase judgement is passes by all =
      subst (All IsPassed) (sym is) (All-push IsPassed phases phase all (subst Passes by passes))

  -- the search ends with the frame at which the walk stands
  pub searched : (walk : WalkData) (regs : Regs) (before : List Phase) (last : Phase) (end : SearchEnd) → walk.sections ≡ sections → walk.memory ≡ memory → walk.regs ≡ regs → walk.lines ≡ lines_of before ++ last.line ∷ [] → IsAsked walk → All IsJudged (before ++ last ∷ []) → All IsPassed before → IsSearchEnd sections memory kind (length (before ++ last ∷ [])) walk.frame last.line end → SearchUnfolds sections memory regs kind (before ++ last ∷ []) end
  searched walk regs before last end same_sections same_memory same_regs lines asked are_judged passed ends =
      let search = before ++ last ∷ [] in
      let shown : walk.lines ≡ lines_of search = lines ∙ sym (lines_of-push before last) in
      let long : length (lines_of search) ≡ length search = length-map search (λ p. p.line) in
      let are : AreFrames sections memory regs asked.frames (lines_of search) =
      subst (λ (s : List SectionData). AreFrames s memory regs asked.frames (lines_of search)) same_sections
      (subst (λ (m : List RegionData). AreFrames walk.sections m regs asked.frames (lines_of search)) same_memory
      (subst (λ (r : Regs). AreFrames walk.sections walk.memory r asked.frames (lines_of search)) same_regs
      (subst (λ (ls : List FrameLine). AreFrames walk.sections walk.memory walk.regs asked.frames ls) shown asked.are_frames))) in
      let frames_long = AllZip-long Shows asked.frames (lines_of search) are.shown in
      let asked_count = asked.count in
      record {
        frames = asked.frames;
        are_frames = are;
        count = omega (arith, asked_count, ap length shown, long);
        are_judged = are_judged;
        passed = before_last IsPassed before last passed;
        ends = λ i frame phase place at is.
            let frame_is : walk.frame ≡ frame = same asked.frames walk.frame frame (length asked.frames - 1) i asked.last_frame at (omega (arith, place, frames_long, long)) in
            let phase_is : last ≡ phase = same search last phase (length search - 1) i (last-push before last) is (omega (arith, place)) in
            subst (λ f. IsSearchEnd sections memory kind (length search) f phase.line end) frame_is (subst (λ (p : Phase). IsSearchEnd sections memory kind (length search) walk.frame p.line end) phase_is ends);
      }

  -- the search ends by the frame's table
  pub searched_by_table : (walk : WalkData) (regs : Regs) (before : List Phase) (last : Phase) (end : SearchEnd) → walk.sections ≡ sections → walk.memory ≡ memory → walk.regs ≡ regs → walk.lines ≡ lines_of before ++ last.line ∷ [] → IsAsked walk → All IsJudged (before ++ last ∷ []) → All IsPassed before → StopsWith (judged sections memory kind last.line) (length before) end → SearchUnfolds sections memory regs kind (before ++ last ∷ []) end
  searched_by_table walk regs before last end same_sections same_memory same_regs lines asked are_judged passed stops =
      searched walk regs before last end same_sections same_memory same_regs lines asked are_judged passed (stopped (length (before ++ last ∷ [])) walk.frame last.line (length before) end (omega (arith, length-append before (last ∷ []))) stops)

  -- the search ends as a backtrace
  pub searched_to_end : (walk : WalkData) (regs : Regs) (before : List Phase) (last : Phase) (end : End) → walk.sections ≡ sections → walk.memory ≡ memory → walk.regs ≡ regs → walk.lines ≡ lines_of before ++ last.line ∷ [] → IsWalked walk end → All IsJudged (before ++ last ∷ []) → All IsPassed before → Passes (judged sections memory kind last.line) → SearchUnfolds sections memory regs kind (before ++ last ∷ []) (searches.Failed (ends.Uncaught end))
  searched_to_end walk regs before last end same_sections same_memory same_regs lines walked are_judged passed passes =
      let long : length walk.lines ≡ length (before ++ last ∷ []) = ap length (lines ∙ sym (lines_of-push before last)) ∙ length-map (before ++ last ∷ []) (λ p. p.line) in
      let is_end : IsEnd sections memory (length (before ++ last ∷ [])) walk.frame last.line end =
      subst (λ (s : List SectionData). IsEnd s memory (length (before ++ last ∷ [])) walk.frame last.line end) same_sections
      (subst (λ (m : List RegionData). IsEnd walk.sections m (length (before ++ last ∷ [])) walk.frame last.line end) same_memory
      (subst (λ (n : ℕ). IsEnd walk.sections walk.memory n walk.frame last.line end) long
      (subst (λ (l : FrameLine). IsEnd walk.sections walk.memory (length walk.lines) walk.frame l end) (asked_line walk walked.asked (lines_of before) last.line lines) walked.ends))) in
      searched walk regs before last (searches.Failed (ends.Uncaught end)) same_sections same_memory same_regs lines walked.asked are_judged passed (passes, is_end)

pub lines_more : (walked old : List FrameLine) (phases more : List Phase) (phase : Phase) → walked ≡ old ++ phase.line ∷ [] → old ≡ lines_of phases → more ≡ phases ++ phase ∷ [] → walked ≡ lines_of more
lines_more walked old phases more phase walked_is old_is more_is =
    walked_is ∙ ap (λ (ls : List FrameLine). ls ++ phase.line ∷ []) old_is ∙ sym (lines_of-push phases phase) ∙ ap lines_of (sym more_is)

pub queries_more : {A : Type 0} (answers : A → ℕ → Place → A → Type 0) (before : A) (phases more : List Phase) (phase : Phase) (last end : A) → more ≡ phases ++ phase ∷ [] → GoesThrough answers before (lines_of phases) last → answers last phase.line.look phase.line.place end → GoesThrough answers before (lines_of more) end
queries_more answers before phases more phase last end is goes answered =
    subst (λ (ls : List FrameLine). GoesThrough answers before ls end) (sym (ap lines_of is ∙ lines_of-push phases phase)) (GoesThrough-push answers before (lines_of phases) last phase.line end goes answered)

pub halves_more : (phases more : List Phase) (phase : Phase) → more ≡ phases ++ phase ∷ [] → IsPlace phase.line.place → All (λ (l : FrameLine). IsPlace l.place) (lines_of phases) → All (λ (l : FrameLine). IsPlace l.place) (lines_of more)
halves_more phases more phase is here all =
    subst (All (λ (l : FrameLine). IsPlace l.place)) (sym (ap lines_of is ∙ lines_of-push phases phase)) (All-push (λ (l : FrameLine). IsPlace l.place) (lines_of phases) phase.line all here)

pub few : (walked : List FrameLine) (phases : List Phase) → walked ≡ lines_of phases → length phases ≡ length walked
few walked phases is = sym (ap length is ∙ length-map phases (λ p. p.line))

-- the search ends by the table of the frame that was asked for last
pub ends_by_table : (sections : List SectionData) (memory : List RegionData) (kind : ℕ) (walk : WalkData) (regs : Regs) (before more : List Phase) (last : Phase) (end : SearchEnd) (i : ℕ) (judgement : Judgement) → walk.sections ≡ sections → walk.memory ≡ memory → walk.regs ≡ regs → walk.lines ≡ lines_of before ++ last.line ∷ [] → IsAsked walk → more ≡ before ++ last ∷ [] → All (IsJudged sections memory kind) more → All (IsPassed sections memory kind) before → i ≡ length before → judgement ≡ judged sections memory kind last.line → StopsWith judgement i end → SearchUnfolds sections memory regs kind more end
ends_by_table sections memory kind walk regs before more last end i judgement same_sections same_memory same_regs lines asked is are_judged passed place by stops =
    subst (λ (ps : List Phase). SearchUnfolds sections memory regs kind ps end) (sym is)
    (searched_by_table sections memory kind walk regs before last end same_sections same_memory same_regs lines asked (subst (All (IsJudged sections memory kind)) is are_judged) passed (subst (λ (k : ℕ). StopsWith (judged sections memory kind last.line) k end) place (subst (λ (j : Judgement). StopsWith j i end) by stops)))

-- the search ends as a backtrace with that frame
pub ends_as_backtrace : (sections : List SectionData) (memory : List RegionData) (kind : ℕ) (walk : WalkData) (regs : Regs) (before more : List Phase) (last : Phase) (end : End) (judgement : Judgement) → walk.sections ≡ sections → walk.memory ≡ memory → walk.regs ≡ regs → walk.lines ≡ lines_of before ++ last.line ∷ [] → IsWalked walk end → more ≡ before ++ last ∷ [] → All (IsJudged sections memory kind) more → All (IsPassed sections memory kind) before → judgement ≡ judged sections memory kind last.line → Passes judgement → SearchUnfolds sections memory regs kind more (searches.Failed (ends.Uncaught end))
ends_as_backtrace sections memory kind walk regs before more last end judgement same_sections same_memory same_regs lines walked is are_judged passed by passes =
    subst (λ (ps : List Phase). SearchUnfolds sections memory regs kind ps (searches.Failed (ends.Uncaught end))) (sym is)
    (searched_to_end sections memory kind walk regs before last end same_sections same_memory same_regs lines walked (subst (All (IsJudged sections memory kind)) is are_judged) passed (subst Passes by passes))

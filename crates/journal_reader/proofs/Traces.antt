-- The lines of backtraces, and of events altogether.
use Rattle.std.proofs.Common.{◌≡◌, ◌⊎◌, ℕ, ◌+◌, ◌^◌, ◌<◌, List, [], ◌∷◌, ◌++◌, length, map, Some, None, refl, sym, ap, ap₂, subst, inl, inr, ◌∙◌, append_assoc, arith}
use Rattle.std.specs.List.{AllByRecursion}
use Rattle.reg_model.specs.SpanData.{SpanData}
use Rattle.unwind_step.specs.Backtrace.{TraceData}
use Rattle.unwind_step.specs.declared.backtrace.End.{End}
use Rattle.unwind_step.specs.declared.backtrace.End.TheVariants as end
use Rattle.unwind_step.specs.declared.backtrace.FrameLine.{FrameLine}
use Rattle.script_text.specs.Text.{frame_line, frame_lines, end_line, trace_lines}
use Rattle.journal_reader.specs.Told.{IsToldFrame, IsToldEnd, IsToldTrace}
use Rattle.journal_reader.specs.Reading.{frame_head, end_head, told_frame, told_end}
use Rattle.journal_reader.specs.JournalLines.{line_at}
use Rattle.journal_reader.specs.ReadLines.{AreBarredBy, IsStuck}
use Rattle.journal_reader.proofs.LinesOfEvents.{frame_line_again, frame_line_is, end_line_again, end_line_is, frame_no_end}

module _ (images : List SpanData) (few : length images < 2 ^ 32) (round thread place : ℕ) where
  -- the lines of frames, and of a whole backtrace after its first line
  abbrev pub frames_at : ℕ → List FrameLine → List (List ℕ)
  frames_at number frames = map (line_at round thread place) (frame_lines number frames)

  abbrev pub trace_at : TraceData → List (List ℕ)
  trace_at trace = map (line_at round thread place) (trace_lines trace)

  abbrev pub end_at : End → List ℕ
  end_at e = line_at round thread place (end_line e)

  frames_then : (number : ℕ) (frames : List FrameLine) (e : End) → map (line_at round thread place) (frame_lines number frames ++ end_line e ∷ []) ≡ frames_at number frames ++ end_at e ∷ []
  frames_then number [] e = refl
  frames_then number (line ∷ frames) e = ap (λ (x : List (List ℕ)). line_at round thread place (frame_line number line) ∷ x) (frames_then (number + 1) frames e)

  pub trace_at_is : (trace : TraceData) → trace_at trace ≡ frames_at 0 trace.frames ++ end_at trace.end ∷ []
  trace_at_is trace = frames_then 0 trace.frames trace.end

  -- one more frame
  pub frames_more : (number : ℕ) (frames : List FrameLine) (line : FrameLine) → frames_at number (frames ++ line ∷ []) ≡ frames_at number frames ++ line_at round thread place (frame_line (number + length frames) line) ∷ []
  frames_more number [] line = let same : number ≡ number + 0 = omega arith in ap (λ (n : ℕ). line_at round thread place (frame_line n line) ∷ []) same
  frames_more number (f ∷ frames) line =
      let same : number + 1 + length frames ≡ number + length (f ∷ frames) = omega arith in
      ap (λ (x : List (List ℕ)). line_at round thread place (frame_line number f) ∷ x) (frames_more (number + 1) frames line ∙ ap (λ (n : ℕ). frames_at (number + 1) frames ++ line_at round thread place (frame_line n line) ∷ []) same)

  -- where two backtraces begin alike, what follows the frames of the first is a frame of the other or its end
  diverges : (number : ℕ) (frames others : List FrameLine) (e : End) (front rest : List (List ℕ)) → AllByRecursion (IsToldFrame images) others → frames_at number frames ++ front ≡ frames_at number others ++ end_at e ∷ rest
      → ((line : FrameLine) × (more : List (List ℕ)) × IsToldFrame images line × (front ≡ line_at round thread place (frame_line (number + length frames) line) ∷ more)) ⊎ (front ≡ end_at e ∷ rest)
  diverges number [] [] e front rest told same = inr same
  diverges number [] (o ∷ others) e front rest told same =
      let zero_more : number ≡ number + 0 = omega arith in
      inl (o, frames_at (number + 1) others ++ end_at e ∷ rest, told.0, same ∙ ap (λ (n : ℕ). line_at round thread place (frame_line n o) ∷ (frames_at (number + 1) others ++ end_at e ∷ rest)) zero_more)
  diverges number (f ∷ frames) [] e front rest told same = absurd (frame_no_end images few round thread place number f e cc)
  diverges number (f ∷ frames) (o ∷ others) e front rest told same =
      let tails : frames_at (number + 1) frames ++ front ≡ frames_at (number + 1) others ++ end_at e ∷ rest = cc in
      let shift : number + 1 + length frames ≡ number + length (f ∷ frames) = omega arith in
      subst (λ (n : ℕ). ((line : FrameLine) × (more : List (List ℕ)) × IsToldFrame images line × (front ≡ line_at round thread place (frame_line n line) ∷ more)) ⊎ (front ≡ end_at e ∷ rest)) shift
      (diverges (number + 1) frames others e front rest told.1 tails)

  -- the line is no frame's and no end
  pub record IsNoLine (number : ℕ) (line : List ℕ) : Type 0 where
    pub frame : told_frame images (frame_head round thread place number) line ≡ None
    pub end : told_end (end_head round thread place) line ≡ None

  no_line : (number : ℕ) (line : List ℕ) (rest more : List (List ℕ)) (e : End) → IsNoLine number line → IsToldEnd e
      → ((f : FrameLine) × (follows : List (List ℕ)) × IsToldFrame images f × (line ∷ rest ≡ line_at round thread place (frame_line number f) ∷ follows)) ⊎ (line ∷ rest ≡ end_at e ∷ more) → ⊥
  no_line number line rest more e none told (inl p) =
      let same : line ≡ line_at round thread place (frame_line number p.0) = cc in
      let read = frame_line_again images few round thread place number p.0 p.2 in
      let read_line = ap (told_frame images (frame_head round thread place number)) same in
      let bad : None ≡ Some p.0 = sym none.frame ∙ read_line ∙ read in absurd cc
  no_line number line rest more e none told (inr p) =
      let same : line ≡ end_at e = cc in
      let read = end_line_again images few round thread place e told in
      let read_line = ap (told_end (end_head round thread place)) same in
      let bad : None ≡ Some e = sym none.end ∙ read_line ∙ read in absurd cc

  no_more : (number : ℕ) (more : List (List ℕ)) (e : End)
      → ((f : FrameLine) × (follows : List (List ℕ)) × IsToldFrame images f × ([] ≡ line_at round thread place (frame_line number f) ∷ follows)) ⊎ ([] ≡ end_at e ∷ more) → ⊥
  no_more number more e (inl p) = let bad = p.3 in absurd cc
  no_more number more e (inr p) = absurd cc

  all_more : (frames : List FrameLine) (line : FrameLine) → AllByRecursion (IsToldFrame images) frames → IsToldFrame images line → AllByRecursion (IsToldFrame images) (frames ++ line ∷ [])
  all_more [] line told more = (more, tt)
  all_more (f ∷ frames) line told more = (told.0, all_more frames line told.1 more)

  -- one more frame was read
  pub frame_more : (frames : List FrameLine) (all mid left : List (List ℕ)) (line : List ℕ) (f : FrameLine) → AllByRecursion (IsToldFrame images) frames → all ≡ frames_at 0 frames ++ mid → mid ≡ line ∷ left
      → told_frame images (frame_head round thread place (length frames)) line ≡ Some f
      → AllByRecursion (IsToldFrame images) (frames ++ f ∷ []) × (all ≡ frames_at 0 (frames ++ f ∷ []) ++ left)
  frame_more frames all mid left line f told cut next read =
      let p = frame_line_is images few round thread place (length frames) line f read in
      let zero_more : length frames ≡ 0 + length frames = omega arith in
      let is : line ≡ line_at round thread place (frame_line (0 + length frames) f) = p.1 ∙ ap (λ (n : ℕ). line_at round thread place (frame_line n f)) zero_more in
      let here = line_at round thread place (frame_line (0 + length frames) f) in (
        all_more frames f told p.0,
        cut ∙ ap (λ (x : List (List ℕ)). frames_at 0 frames ++ x) (next ∙ ap (λ (x : List ℕ). x ∷ left) is)
            ∙ sym (ap (λ (x : List (List ℕ)). x ++ left) (frames_more 0 frames f) ∙ append_assoc (frames_at 0 frames) (here ∷ []) left),
      )

  -- the last line was read
  pub trace_ended : (frames : List FrameLine) (all mid left : List (List ℕ)) (line : List ℕ) (e : End) → AllByRecursion (IsToldFrame images) frames → all ≡ frames_at 0 frames ++ mid → mid ≡ line ∷ left
      → told_end (end_head round thread place) line ≡ Some e
      → IsToldTrace images (record { frames = frames; end = e }) × (all ≡ trace_at (record { frames = frames; end = e }) ++ left)
  trace_ended frames all mid left line e told cut next read =
      let p = end_line_is images few round thread place line e read in (
        record { frames = told; end = p.0 },
        cut ∙ ap (λ (x : List (List ℕ)). frames_at 0 frames ++ x) (next ∙ ap (λ (x : List ℕ). x ∷ left) p.1)
            ∙ sym (ap (λ (x : List (List ℕ)). x ++ left) (trace_at_is (record { frames = frames; end = e })) ∙ append_assoc (frames_at 0 frames) (end_at e ∷ []) left),
      )

  -- what is left of a backtrace whose frames were read
  module _ (frames : List FrameLine) (told : AllByRecursion (IsToldFrame images) frames) where
    whole_at : (trace : TraceData) (others : List (List ℕ)) → trace_at trace ++ others ≡ frames_at 0 trace.frames ++ end_at trace.end ∷ others
    whole_at trace others = ap (λ (x : List (List ℕ)). x ++ others) (trace_at_is trace) ∙ append_assoc (frames_at 0 trace.frames) (end_at trace.end ∷ []) others

    stuck_with : (all left : List (List ℕ)) → all ≡ frames_at 0 frames ++ left → AreBarredBy (IsToldTrace images) trace_at (frames_at 0 frames) left → IsStuck (IsToldTrace images) trace_at all left
    stuck_with all left cut barred = record {
      before = frames_at 0 frames;
      cut = cut;
      some = record { frames = frames; end = end.NoObject };
      is_told = record { frames = told; end = tt };
      others = end_at end.NoObject ∷ [];
      begun = trace_at_is (record { frames = frames; end = end.NoObject });
      barred = barred;
    }

    pub stuck_at_end : (all left : List (List ℕ)) (line : List ℕ) → all ≡ frames_at 0 frames ++ left → left ≡ line ∷ [] → IsStuck (IsToldTrace images) trace_at all left
    stuck_at_end all left line cut is =
        subst (IsStuck (IsToldTrace images) trace_at all) (sym is) (stuck_with all (line ∷ []) (cut ∙ ap (λ (x : List (List ℕ)). frames_at 0 frames ++ x) is)
        (λ trace others told same. no_more (0 + length frames) others trace.end (diverges 0 frames trace.frames trace.end [] others told.frames (same ∙ whole_at trace others))))

    pub stuck_at_line : (all left : List (List ℕ)) (line next : List ℕ) (others : List (List ℕ)) → all ≡ frames_at 0 frames ++ left → left ≡ line ∷ next ∷ others → IsNoLine (length frames) line → IsStuck (IsToldTrace images) trace_at all left
    stuck_at_line all left line next others cut is none =
        let zero_more : length frames ≡ 0 + length frames = omega arith in
        let here = subst (λ (n : ℕ). IsNoLine n line) zero_more none in
        subst (IsStuck (IsToldTrace images) trace_at all) (sym is) (stuck_with all (line ∷ next ∷ others) (cut ∙ ap (λ (x : List (List ℕ)). frames_at 0 frames ++ x) is)
        (λ rest trace follows told same. no_line (0 + length frames) line rest follows trace.end here told.end (diverges 0 frames trace.frames trace.end (line ∷ rest) follows told.frames (same ∙ whole_at trace follows))))

  frames_unique : (number : ℕ) (frames others : List FrameLine) (e f : End) (xs ys : List (List ℕ)) → AllByRecursion (IsToldFrame images) frames → AllByRecursion (IsToldFrame images) others → IsToldEnd e → IsToldEnd f
      → frames_at number frames ++ end_at e ∷ xs ≡ frames_at number others ++ end_at f ∷ ys → (frames ≡ others) × (e ≡ f) × (xs ≡ ys)
  frames_unique number [] [] e f xs ys p q te tf same =
      let ends : end_at e ≡ end_at f = cc in
      let first = end_line_again images few round thread place e te in
      let second = end_line_again images few round thread place f tf in
      let between = ap (told_end (end_head round thread place)) ends in
      let is : Some e ≡ Some f = sym first ∙ between ∙ second in
      (refl, cc, cc)
  frames_unique number [] (o ∷ others) e f xs ys p q te tf same = absurd (frame_no_end images few round thread place number o e cc)
  frames_unique number (a ∷ frames) [] e f xs ys p q te tf same = absurd (frame_no_end images few round thread place number a f cc)
  frames_unique number (a ∷ frames) (o ∷ others) e f xs ys p q te tf same =
      let lines : line_at round thread place (frame_line number a) ≡ line_at round thread place (frame_line number o) = cc in
      let first = frame_line_again images few round thread place number a p.0 in
      let second = frame_line_again images few round thread place number o q.0 in
      let between = ap (told_frame images (frame_head round thread place number)) lines in
      let is : Some a ≡ Some o = sym first ∙ between ∙ second in
      let heads : a ≡ o = cc in
      let tails : frames_at (number + 1) frames ++ end_at e ∷ xs ≡ frames_at (number + 1) others ++ end_at f ∷ ys = cc in
      let rest = frames_unique (number + 1) frames others e f xs ys p.1 q.1 te tf tails in
      (ap₂ (λ (x : FrameLine) (y : List FrameLine). x ∷ y) heads rest.0, rest.1, rest.2)

  pub trace_unique : (trace other : TraceData) (xs ys : List (List ℕ)) → IsToldTrace images trace → IsToldTrace images other → trace_at trace ++ xs ≡ trace_at other ++ ys → (trace ≡ other) × (xs ≡ ys)
  trace_unique trace other xs ys p q same =
      let joined : (t : TraceData) (zs : List (List ℕ)) → trace_at t ++ zs ≡ frames_at 0 t.frames ++ end_at t.end ∷ zs = λ t zs. ap (λ (x : List (List ℕ)). x ++ zs) (trace_at_is t) ∙ append_assoc (frames_at 0 t.frames) (end_at t.end ∷ []) zs in
      let r = frames_unique 0 trace.frames other.frames trace.end other.end xs ys p.frames q.frames p.end q.end (sym (joined trace xs) ∙ same ∙ joined other ys) in
      (ap₂ (λ (f : List FrameLine) (e : End). record { frames = f; end = e }) r.0 r.1, r.2)

-- The lines of an event: what was read of them, or why they begin none that is told.
use Rattle.std.proofs.Common.{◌≡◌, ◌≢◌, ℕ, ◌^◌, ◌<◌, List, [], ◌∷◌, ◌++◌, length, Some, None, codes, refl, sym, ap, ap₂, subst, ◌∙◌, arith}
use Rattle.std.specs.Fmt.{decimal}
use Rattle.reg_model.specs.SpanData.{SpanData}
use Rattle.reg_model.specs.declared.answer.Found.TheVariants.{Miss}
use Rattle.reg_model.specs.declared.answer.Inserted.TheVariants as inserted
use Rattle.reg_model.specs.declared.answer.Loading.TheVariants as loading
use Rattle.reg_model.specs.declared.answer.Removed.TheVariants as removed
use Rattle.reg_model.specs.declared.answer.Replaced.TheVariants as replaced
use Rattle.unwind_step.specs.Backtrace.{TraceData}
use Rattle.unwind_step.specs.declared.backtrace.End.TheVariants as end
use Rattle.script_text.specs.Text.{answer_line}
use Rattle.script_text.specs.declared.script.Event.{Event}
use Rattle.script_text.specs.declared.script.Event.TheVariants as event
use Rattle.script_text.specs.declared.journal.Answer.{Answer}
use Rattle.script_text.specs.declared.journal.Answer.TheVariants.{Register, Deregister, Replace, Load, Unload, Find, Unwind}
use Rattle.journal_reader.specs.Told.{IsToldTrace, IsToldAnswer}
use Rattle.journal_reader.specs.Reading.{IsOneLine, head_of, first_line}
use Rattle.journal_reader.specs.JournalLines.{line_at, event_lines}
use Rattle.journal_reader.specs.ReadLines.{AreBarred, IsStuck}
use Rattle.journal_reader.proofs.LinesOfEvents.{first_again, first_is}
use Rattle.journal_reader.proofs.Traces.{trace_at, trace_unique}
use Rattle.journal_reader.proofs.Sequences.{barred_by, stuck_here}

-- an event that isn't a backtrace has one line
pub is_one_line : (asked : Event) → ((snapshot : ℕ) → asked ≢ event.Unwind snapshot) → IsOneLine asked
is_one_line (event.Unwind snapshot) other = absurd (other snapshot refl)
is_one_line _ other = tt

module _ (images : List SpanData) (few : length images < 2 ^ 32) where
  -- each event has an answer that is told
  pub some_answer : (asked : Event) → (answer : Answer) × IsToldAnswer images asked answer
  some_answer (event.Register image) = (Register image (inserted.Full 0), (refl, omega arith))
  some_answer (event.Deregister base) = (Deregister base (removed.NotFound 0), (refl, omega arith))
  some_answer (event.Replace image) = (Replace image (replaced.NotFound 0), (refl, omega arith))
  some_answer (event.Load image) = (Load image (loading.LoadFull 0), (refl, omega arith))
  some_answer (event.Unload base) = (Unload base (removed.NotFound 0), (refl, omega arith))
  some_answer (event.Find pc) = (
    Find pc (record { registered = Miss 0; loaded = Some (Miss 0) }),
    (refl, record { whole = tt; registered = omega arith; loaded = omega arith }),
  )
  some_answer (event.Unwind snapshot) = (
    Unwind snapshot (record { frames = []; end = end.NoObject }),
    (refl, record { frames = tt; end = tt }),
  )

  module _ (round thread place : ℕ) where
    abbrev lines_of : Answer → List (List ℕ)
    lines_of answer = event_lines round thread place answer

    -- the lines of an answer that is told to such an event
    one_line : (asked : Event) (answer : Answer) → IsOneLine asked → IsToldAnswer images asked answer → lines_of answer ≡ line_at round thread place (answer_line answer) ∷ []
    one_line (event.Register image) (Register number answer) one told = refl
    one_line (event.Deregister base) (Deregister number answer) one told = refl
    one_line (event.Replace image) (Replace number answer) one told = refl
    one_line (event.Load image) (Load number answer) one told = refl
    one_line (event.Unload base) (Unload number answer) one told = refl
    one_line (event.Find pc) (Find number found) one told = refl
    one_line (event.Unwind snapshot) answer one told = absurd one
    one_line asked answer one told = absurd told

    unique_line : (asked : Event) (answer other : Answer) (xs ys : List (List ℕ)) → IsOneLine asked → IsToldAnswer images asked answer → IsToldAnswer images asked other
        → lines_of answer ++ xs ≡ lines_of other ++ ys → (answer ≡ other) × (xs ≡ ys)
    unique_line asked answer other xs ys one p q same =
        let a = ap (λ (x : List (List ℕ)). x ++ xs) (one_line asked answer one p) in
        let b = ap (λ (x : List (List ℕ)). x ++ ys) (one_line asked other one q) in
        let both : line_at round thread place (answer_line answer) ∷ xs ≡ line_at round thread place (answer_line other) ∷ ys = sym a ∙ same ∙ b in
        let heads : line_at round thread place (answer_line answer) ≡ line_at round thread place (answer_line other) = cc in
        let first = first_again images few round thread place asked answer one p in
        let second = first_again images few round thread place asked other one q in
        let between = ap (first_line images (head_of round thread place asked) asked) heads in
        let is : Some answer ≡ Some other = sym first ∙ between ∙ second in
        (cc, cc)

    unique_trace : (snapshot : ℕ) (answer other : Answer) (xs ys : List (List ℕ)) → IsToldAnswer images (event.Unwind snapshot) answer → IsToldAnswer images (event.Unwind snapshot) other
        → lines_of answer ++ xs ≡ lines_of other ++ ys → (answer ≡ other) × (xs ≡ ys)
    unique_trace snapshot (Unwind a trace) (Unwind b other) xs ys p q same =
        let tails : trace_at images few round thread place trace ++ xs ≡ trace_at images few round thread place other ++ ys = cc in
        let r = trace_unique images few round thread place trace other xs ys p.1 q.1 tails in
        (ap₂ (λ (n : ℕ) (t : TraceData). Unwind n t) (p.0 ∙ sym q.0) r.0, r.1)
    unique_trace snapshot (Unwind a trace) (Register n answer) xs ys p q same = absurd q
    unique_trace snapshot (Unwind a trace) (Deregister n answer) xs ys p q same = absurd q
    unique_trace snapshot (Unwind a trace) (Replace n answer) xs ys p q same = absurd q
    unique_trace snapshot (Unwind a trace) (Load n answer) xs ys p q same = absurd q
    unique_trace snapshot (Unwind a trace) (Unload n answer) xs ys p q same = absurd q
    unique_trace snapshot (Unwind a trace) (Find n answer) xs ys p q same = absurd q
    unique_trace snapshot (Register n answer) other xs ys p q same = absurd p
    unique_trace snapshot (Deregister n answer) other xs ys p q same = absurd p
    unique_trace snapshot (Replace n answer) other xs ys p q same = absurd p
    unique_trace snapshot (Load n answer) other xs ys p q same = absurd p
    unique_trace snapshot (Unload n answer) other xs ys p q same = absurd p
    unique_trace snapshot (Find n answer) other xs ys p q same = absurd p

    pub unique_answer : (asked : Event) (answer other : Answer) (xs ys : List (List ℕ)) → IsToldAnswer images asked answer → IsToldAnswer images asked other
        → lines_of answer ++ xs ≡ lines_of other ++ ys → (answer ≡ other) × (xs ≡ ys)
    unique_answer (event.Register image) answer other xs ys p q same = unique_line (event.Register image) answer other xs ys tt p q same
    unique_answer (event.Deregister base) answer other xs ys p q same = unique_line (event.Deregister base) answer other xs ys tt p q same
    unique_answer (event.Replace image) answer other xs ys p q same = unique_line (event.Replace image) answer other xs ys tt p q same
    unique_answer (event.Load image) answer other xs ys p q same = unique_line (event.Load image) answer other xs ys tt p q same
    unique_answer (event.Unload base) answer other xs ys p q same = unique_line (event.Unload base) answer other xs ys tt p q same
    unique_answer (event.Find pc) answer other xs ys p q same = unique_line (event.Find pc) answer other xs ys tt p q same
    unique_answer (event.Unwind snapshot) answer other xs ys p q same = unique_trace snapshot answer other xs ys p q same

    -- no line of the event is whole, as the text ends
    no_line_left : (asked : Event) (answer : Answer) (others : List (List ℕ)) → [] ≡ lines_of answer ++ others → ⊥
    no_line_left asked answer others same = absurd cc

    pub event_ends : (asked : Event) (all : List (List ℕ)) (line : List ℕ) → all ≡ line ∷ [] → IsStuck (IsToldAnswer images asked) lines_of all all
    event_ends asked all line is = subst (λ (x : List (List ℕ)). IsStuck (IsToldAnswer images asked) lines_of x x) (sym is) (stuck_here (IsToldAnswer images asked) lines_of (some_answer asked).0 (some_answer asked).1 (line ∷ []) (λ answer others told same. no_line_left asked answer others same))

    -- the first line is none of the event's
    pub event_stuck : (asked : Event) (all : List (List ℕ)) (line next : List ℕ) (others : List (List ℕ)) → all ≡ line ∷ next ∷ others
        → ((answer : Answer) → IsToldAnswer images asked answer → line ≢ line_at round thread place (answer_line answer))
        → IsStuck (IsToldAnswer images asked) lines_of all all
    event_stuck asked all line next others is none = subst (λ (x : List (List ℕ)). IsStuck (IsToldAnswer images asked) lines_of x x) (sym is) (stuck_here (IsToldAnswer images asked) lines_of (some_answer asked).0 (some_answer asked).1 (line ∷ next ∷ others) (λ rest answer follows told same. none answer told cc))

    -- of an event of one line, what was read
    pub event_read : (asked : Event) (all left : List (List ℕ)) (line : List ℕ) (answer : Answer) → IsOneLine asked → all ≡ line ∷ left → first_line images (head_of round thread place asked) asked line ≡ Some answer
        → IsToldAnswer images asked answer × (all ≡ lines_of answer ++ left)
    event_read asked all left line answer one is read =
        let p = first_is images few round thread place asked line answer read in
        (p.0, is ∙ ap (λ (x : List ℕ). x ∷ left) p.1 ∙ sym (ap (λ (x : List (List ℕ)). x ++ left) (one_line asked answer one p.0)))

    pub event_unread : (asked : Event) (all : List (List ℕ)) (line next : List ℕ) (others : List (List ℕ)) → IsOneLine asked → all ≡ line ∷ next ∷ others → first_line images (head_of round thread place asked) asked line ≡ None
        → IsStuck (IsToldAnswer images asked) lines_of all all
    event_unread asked all line next others one is unread = event_stuck asked all line next others is (λ answer told same.
        let read = first_again images few round thread place asked answer one told in
        let between = ap (first_line images (head_of round thread place asked) asked) same in
        let bad : None ≡ Some answer = sym unread ∙ between ∙ read in absurd cc)

    -- the trace of a backtrace is stuck, and so is the event
    pub trace_stuck : (snapshot : ℕ) (first : List ℕ) (all left : List (List ℕ)) → first ≡ head_of round thread place (event.Unwind snapshot) → IsStuck (IsToldTrace images) (trace_at images few round thread place) all left
        → IsStuck (IsToldAnswer images (event.Unwind snapshot)) lines_of (first ∷ all) left
    trace_stuck snapshot first all left is stuck = record {
      before = first ∷ stuck.before;
      cut = ap (λ (x : List (List ℕ)). first ∷ x) stuck.cut;
      some = Unwind snapshot stuck.some;
      is_told = (refl, stuck.is_told);
      others = stuck.others;
      begun = ap₂ (λ (x : List ℕ) (xs : List (List ℕ)). x ∷ xs) (sym is) stuck.begun;
      barred = barred_by (IsToldTrace images) (trace_at images few round thread place) (IsToldAnswer images (event.Unwind snapshot)) lines_of stuck.before (first ∷ stuck.before) left carry stuck.barred;
    }
      where
        carry : (front : List (List ℕ)) → AreBarred (IsToldTrace images) (trace_at images few round thread place) stuck.before front → AreBarred (IsToldAnswer images (event.Unwind snapshot)) lines_of (first ∷ stuck.before) front
        carry front bars (Unwind n trace) others told same = bars trace others told.1 cc
        carry front bars (Register n answer) others told same = absurd told
        carry front bars (Deregister n answer) others told same = absurd told
        carry front bars (Replace n answer) others told same = absurd told
        carry front bars (Load n answer) others told same = absurd told
        carry front bars (Unload n answer) others told same = absurd told
        carry front bars (Find n answer) others told same = absurd told

    pub trace_read : (snapshot : ℕ) (first : List ℕ) (all left : List (List ℕ)) (trace : TraceData) → first ≡ head_of round thread place (event.Unwind snapshot) → IsToldTrace images trace → all ≡ trace_at images few round thread place trace ++ left
        → IsToldAnswer images (event.Unwind snapshot) (Unwind snapshot trace) × (first ∷ all ≡ lines_of (Unwind snapshot trace) ++ left)
    trace_read snapshot first all left trace is told read = ((refl, told), ap₂ (λ (x : List ℕ) (xs : List (List ℕ)). x ∷ xs) is read)

    -- the first line of a backtrace is what it begins with, and nothing follows
    pub unwind_none : (snapshot : ℕ) (line : List ℕ) → line ≢ head_of round thread place (event.Unwind snapshot)
        → (answer : Answer) → IsToldAnswer images (event.Unwind snapshot) answer → line ≢ line_at round thread place (answer_line answer)
    unwind_none snapshot line differs (Unwind n trace) told same = differs (same ∙ ap (λ (k : ℕ). line_at round thread place (codes "unwind " ++ decimal k)) told.0)
    unwind_none snapshot line differs (Register n answer) told same = absurd told
    unwind_none snapshot line differs (Deregister n answer) told same = absurd told
    unwind_none snapshot line differs (Replace n answer) told same = absurd told
    unwind_none snapshot line differs (Load n answer) told same = absurd told
    unwind_none snapshot line differs (Unload n answer) told same = absurd told
    unwind_none snapshot line differs (Find n answer) told same = absurd told

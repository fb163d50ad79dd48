-- The lines of events: what is read of each is what is told, and no two told answers have the same lines.
use Rattle.std.proofs.Common.{◌≡◌, ℕ, ◌^◌, ◌<◌, List, [], ◌∷◌, ◌++◌, length, get_or, Option, Some, codes, refl, sym, ap, subst, ◌∙◌, append_assoc, append-nil, arith}
use Rattle.std.specs.Fmt.{decimal}
use Rattle.reg_model.specs.SpanData.{SpanData}
use Rattle.unwind_step.specs.declared.backtrace.End.{End}
use Rattle.unwind_step.specs.declared.backtrace.FrameLine.{FrameLine}
use Rattle.script_text.specs.Digits.{hex}
use Rattle.script_text.specs.Text.{inserted_text, loading_text, removed_text, replaced_text, place_text, frame_line, end_text, end_line, answer_line, event_number}
use Rattle.script_text.specs.declared.script.Event.{Event}
use Rattle.script_text.specs.declared.script.Event.TheVariants as event
use Rattle.script_text.specs.declared.journal.Answer.{Answer}
use Rattle.script_text.specs.declared.journal.Answer.TheVariants.{Register, Deregister, Replace, Load, Unload, Find, Unwind}
use Rattle.script_text.proofs.Numbers.{decimal_again}
use Rattle.journal_reader.specs.FirstNumbers.{past_word}
use Rattle.journal_reader.specs.Told.{IsToldInserted, IsToldLoading, IsToldRemoved, IsToldReplaced, IsToldPlace, IsToldFrame, IsToldEnd, IsToldAnswer}
use Rattle.journal_reader.specs.Reading.{◌>?>◌, inserted_in, loading_in, removed_in, replaced_in, told_place, frame_in, end_in, IsOneLine, told_answer, answer_in, head_of, frame_head, end_head, first_line, told_frame, told_end, told_updates}
use Rattle.journal_reader.specs.JournalLines.{line_at, updates_line}
use Rattle.journal_reader.proofs.Options.{step_parts}
use Rattle.script_text.proofs.Numbers.{decimal_is}
use Rattle.journal_reader.proofs.FirstParts.{past_again, past_is}
use Rattle.journal_reader.proofs.AnswersRead.{inserted_again, loading_again, removed_again, replaced_again, place_again, frame_again, end_again, inserted_is, loading_is, removed_is, replaced_is, place_is, frame_is, end_is, frame_rest}

-- what the first line says after the event, which may be nothing
abbrev pub rest_of : Answer → List ℕ
rest_of (Register image answer) = codes " " ++ inserted_text answer
rest_of (Deregister base answer) = codes " " ++ removed_text answer
rest_of (Replace image answer) = codes " " ++ replaced_text answer
rest_of (Load image answer) = codes " " ++ loading_text answer
rest_of (Unload base answer) = codes " " ++ removed_text answer
rest_of (Find pc place) = codes " " ++ place_text place
rest_of (Unwind snapshot trace) = []

headed : (n w s r : List ℕ) → n ++ ((w ++ s) ++ r) ≡ (n ++ w) ++ (s ++ r)
headed n w s r = simp append_assoc

-- a line that says a word, a number, which was asked for, and the rest after a space
word_headed : (round thread place : ℕ) (word : List ℕ) (digits : ℕ → List ℕ) (told asked : ℕ) (rest : List ℕ) → told ≡ asked → line_at round thread place (word ++ digits told ++ codes " " ++ rest) ≡ (event_number round thread place ++ codes " " ++ (word ++ digits asked)) ++ (codes " " ++ rest)
word_headed round thread place word digits told asked rest same =
    ap (λ (n : ℕ). line_at round thread place (word ++ digits n ++ codes " " ++ rest)) same
    ∙ headed (event_number round thread place ++ codes " ") (word ++ digits asked) (codes " ") rest

frame_glue : (n f d a pc b sp c look space place : List ℕ) → n ++ ((f ++ d ++ (a ++ pc ++ b ++ sp ++ c ++ look ++ space)) ++ place) ≡ (n ++ (f ++ d ++ a)) ++ (pc ++ (b ++ (sp ++ (c ++ (look ++ (space ++ place))))))
frame_glue n f d a pc b sp c look space place = simp append_assoc

module _ (images : List SpanData) (few : length images < 2 ^ 32) where
  -- the event's own first line begins with its number and itself
  pub line_headed : (round thread place : ℕ) (asked : Event) (answer : Answer) → IsToldAnswer images asked answer → line_at round thread place (answer_line answer) ≡ head_of round thread place asked ++ rest_of answer
  line_headed round thread place (event.Register image) (Register number answer) told = word_headed round thread place (codes "register ") decimal _ _ (inserted_text answer) told.0
  line_headed round thread place (event.Deregister base) (Deregister number answer) told = word_headed round thread place (codes "deregister ") hex _ _ (removed_text answer) told.0
  line_headed round thread place (event.Replace image) (Replace number answer) told = word_headed round thread place (codes "replace ") decimal _ _ (replaced_text answer) told.0
  line_headed round thread place (event.Load image) (Load number answer) told = word_headed round thread place (codes "load ") decimal _ _ (loading_text answer) told.0
  line_headed round thread place (event.Unload base) (Unload number answer) told = word_headed round thread place (codes "unload ") hex _ _ (removed_text answer) told.0
  line_headed round thread place (event.Find pc) (Find number found) told = word_headed round thread place (codes "find ") hex _ _ (place_text found) told.0
  line_headed round thread place (event.Unwind snapshot) (Unwind number trace) told =
      ap (λ (n : ℕ). line_at round thread place (codes "unwind " ++ decimal n)) told.0
      ∙ sym (append-nil (head_of round thread place (event.Unwind snapshot)))
  line_headed round thread place asked answer told = absurd told

  rest_again : (asked : Event) (answer : Answer) → IsOneLine asked → IsToldAnswer images asked answer → answer_in images asked (rest_of answer) ≡ Some answer
  unfolding answer_in told_answer past_word
  rest_again (event.Register image) (Register number answer) one told = rw (inserted_again images few answer told.1) (ap (λ (n : ℕ). Some (Register n answer)) (sym told.0))
  rest_again (event.Deregister base) (Deregister number answer) one told = rw (removed_again images few answer told.1) (ap (λ (n : ℕ). Some (Deregister n answer)) (sym told.0))
  rest_again (event.Replace image) (Replace number answer) one told = rw (replaced_again images few answer told.1) (ap (λ (n : ℕ). Some (Replace n answer)) (sym told.0))
  rest_again (event.Load image) (Load number answer) one told = rw (loading_again images few answer told.1) (ap (λ (n : ℕ). Some (Load n answer)) (sym told.0))
  rest_again (event.Unload base) (Unload number answer) one told = rw (removed_again images few answer told.1) (ap (λ (n : ℕ). Some (Unload n answer)) (sym told.0))
  rest_again (event.Find pc) (Find number found) one told = rw (place_again images few found told.1) (ap (λ (n : ℕ). Some (Find n found)) (sym told.0))
  rest_again (event.Unwind snapshot) answer one told = absurd one
  rest_again asked answer one told = absurd told

  pub first_again : (round thread place : ℕ) (asked : Event) (answer : Answer) → IsOneLine asked → IsToldAnswer images asked answer → first_line images (head_of round thread place asked) asked (line_at round thread place (answer_line answer)) ≡ Some answer
  unfolding first_line
  first_again round thread place asked answer one told =
      ap (λ (x : List ℕ). past_word (head_of round thread place asked) x >?> answer_in images asked) (line_headed round thread place asked answer told)
      ∙ ap (λ (o : Option (List ℕ)). o >?> answer_in images asked) (past_again (head_of round thread place asked) (rest_of answer))
      ∙ rest_again asked answer one told

  -- what was read as an event's answer is told, and spelled after the space
  abbrev IsReadFrom : Event → List ℕ → Answer → Type 0
  IsReadFrom asked text answer = IsToldAnswer images asked answer × (codes " " ++ text ≡ rest_of answer)

  read_is : {X : Type 0} (asked : Event) (text : List ℕ) (made : X → Answer) (IsTold : X → Type 0) (spelled : X → List ℕ) (read : Option X) → ((x : X) → read ≡ Some x → IsTold x × (text ≡ spelled x)) → ((x : X) → IsTold x → IsReadFrom asked (spelled x) (made x)) → (answer : Answer) → (read >?> λ x. Some (made x)) ≡ Some answer → IsReadFrom asked text answer
  read_is asked text made IsTold spelled read is from answer e =
      let p = step_parts read (λ x. Some (made x)) answer e in
      let q = is p.0 p.1 in
      let same : made p.0 ≡ answer = cc in
      subst (IsReadFrom asked text) same (subst (λ (x : List ℕ). IsReadFrom asked x (made p.0)) (sym q.1) (from p.0 q.0))

  answer_is : (asked : Event) (text : List ℕ) (answer : Answer) → told_answer images asked text ≡ Some answer → IsReadFrom asked text answer
  unfolding told_answer
  answer_is (event.Register image) text answer e = read_is (event.Register image) text (Register image) (IsToldInserted images) inserted_text (inserted_in images text) (inserted_is images few text) (λ x told. ((refl, told), refl)) answer e
  answer_is (event.Deregister base) text answer e = read_is (event.Deregister base) text (Deregister base) (IsToldRemoved images) removed_text (removed_in images text) (removed_is images few text) (λ x told. ((refl, told), refl)) answer e
  answer_is (event.Replace image) text answer e = read_is (event.Replace image) text (Replace image) (IsToldReplaced images) replaced_text (replaced_in images text) (replaced_is images few text) (λ x told. ((refl, told), refl)) answer e
  answer_is (event.Load image) text answer e = read_is (event.Load image) text (Load image) (IsToldLoading images) loading_text (loading_in images text) (loading_is images few text) (λ x told. ((refl, told), refl)) answer e
  answer_is (event.Unload base) text answer e = read_is (event.Unload base) text (Unload base) (IsToldRemoved images) removed_text (removed_in images text) (removed_is images few text) (λ x told. ((refl, told), refl)) answer e
  answer_is (event.Find pc) text answer e = read_is (event.Find pc) text (Find pc) (IsToldPlace images) place_text (told_place images text) (place_is images few text) (λ x told. ((refl, told), refl)) answer e
  answer_is (event.Unwind snapshot) text answer e = absurd cc

  pub first_is : (round thread place : ℕ) (asked : Event) (line : List ℕ) (answer : Answer) → first_line images (head_of round thread place asked) asked line ≡ Some answer → IsToldAnswer images asked answer × (line ≡ line_at round thread place (answer_line answer))
  unfolding first_line answer_in
  first_is round thread place asked line answer e =
      let p = step_parts (past_word (head_of round thread place asked) line) _ answer e in
      let q = step_parts (past_word (codes " ") p.0) _ answer p.2 in
      let front = past_is (head_of round thread place asked) line p.0 p.1 in
      let space = past_is (codes " ") p.0 q.0 q.1 in
      let a = answer_is asked q.0 answer q.2 in
      (a.0, front ∙ ap (λ (x : List ℕ). head_of round thread place asked ++ x) (space ∙ a.1) ∙ sym (line_headed round thread place asked answer a.0))

  -- ---- the lines of a backtrace

  frame_headed : (round thread place number : ℕ) (line : FrameLine) → line_at round thread place (frame_line number line) ≡ frame_head round thread place number ++ frame_rest images few line
  frame_headed round thread place number line =
      frame_glue (event_number round thread place ++ codes " ") (codes "frame ") (decimal number) (codes " pc ") (hex line.pc) (codes " sp ") (hex line.sp) (codes " look ") (hex line.look) (codes " ") (place_text line.place)

  pub frame_line_again : (round thread place number : ℕ) (line : FrameLine) → IsToldFrame images line → told_frame images (frame_head round thread place number) (line_at round thread place (frame_line number line)) ≡ Some line
  unfolding told_frame
  frame_line_again round thread place number line told =
      ap (λ (x : List ℕ). past_word (frame_head round thread place number) x >?> frame_in images) (frame_headed round thread place number line)
      ∙ ap (λ (o : Option (List ℕ)). o >?> frame_in images) (past_again (frame_head round thread place number) (frame_rest images few line))
      ∙ frame_again images few line told

  pub frame_line_is : (round thread place number : ℕ) (text : List ℕ) (line : FrameLine) → told_frame images (frame_head round thread place number) text ≡ Some line → IsToldFrame images line × (text ≡ line_at round thread place (frame_line number line))
  unfolding told_frame
  frame_line_is round thread place number text line e =
      let p = step_parts (past_word (frame_head round thread place number) text) _ line e in
      let front = past_is (frame_head round thread place number) text p.0 p.1 in
      let q = frame_is images few p.0 line p.2 in
      (q.0, front ∙ ap (λ (x : List ℕ). frame_head round thread place number ++ x) q.1 ∙ sym (frame_headed round thread place number line))

  end_headed : (round thread place : ℕ) (e : End) → line_at round thread place (end_line e) ≡ end_head round thread place ++ end_text e
  end_headed round thread place e = simp append_assoc

  pub end_line_again : (round thread place : ℕ) (e : End) → IsToldEnd e → told_end (end_head round thread place) (line_at round thread place (end_line e)) ≡ Some e
  unfolding told_end
  end_line_again round thread place e told =
      ap (λ (x : List ℕ). past_word (end_head round thread place) x >?> end_in) (end_headed round thread place e)
      ∙ ap (λ (o : Option (List ℕ)). o >?> end_in) (past_again (end_head round thread place) (end_text e))
      ∙ end_again images few e told

  pub end_line_is : (round thread place : ℕ) (text : List ℕ) (e : End) → told_end (end_head round thread place) text ≡ Some e → IsToldEnd e × (text ≡ line_at round thread place (end_line e))
  unfolding told_end
  end_line_is round thread place text e read =
      let p = step_parts (past_word (end_head round thread place) text) _ e read in
      let front = past_is (end_head round thread place) text p.0 p.1 in
      let q = end_is images few p.0 e p.2 in
      (q.0, front ∙ ap (λ (x : List ℕ). end_head round thread place ++ x) q.1 ∙ sym (end_headed round thread place e))

  cancel : (n xs ys : List ℕ) → n ++ xs ≡ n ++ ys → xs ≡ ys
  cancel [] xs ys e = e
  cancel (b ∷ n) xs ys e = cancel n xs ys cc

  -- no line is that of a frame and of an end
  pub frame_no_end : (round thread place number : ℕ) (line : FrameLine) (e : End) → line_at round thread place (frame_line number line) ≡ line_at round thread place (end_line e) → ⊥
  frame_no_end round thread place number line e same =
      let tails = cancel (event_number round thread place ++ codes " ") (frame_line number line) (end_line e) same in
      let heads : get_or (frame_line number line) 0 0 ≡ get_or (end_line e) 0 0 = ap (λ (x : List ℕ). get_or x 0 0) tails in
      omega (arith, heads)

-- ---- the last line

pub updates_again : (updates : ℕ) → updates < 2 ^ 32 → told_updates (updates_line updates) ≡ Some updates
unfolding told_updates past_word
updates_again updates lt = decimal_again updates lt

pub updates_is : (line : List ℕ) (updates : ℕ) → told_updates line ≡ Some updates → (updates < 2 ^ 32) × (line ≡ updates_line updates)
unfolding told_updates
updates_is line updates e =
    let p = step_parts (past_word (codes "updates ") line) _ updates e in
    let front = past_is (codes "updates ") line p.0 p.1 in
    let q = decimal_is p.0 updates p.2 in
    (q.0, front ∙ ap (λ (x : List ℕ). codes "updates " ++ x) q.1)

-- What is told stands on as many lines as its text has.
use Rattle.std.proofs.Common.{◌≡◌, ℕ, ◌+◌, List, [], ◌∷◌, ◌++◌, length, map, length-append, refl, ap, arith}
use Rattle.std.specs.List.{sum_by, count_by}
use Rattle.std.proofs.lemmas.List.{length-map}
use Rattle.std.proofs.lemmas.List.Sums.{sum_by-append, sum_by-cons}
use Rattle.reg_model.specs.SpanData.{SpanData}
use Rattle.reg_model.specs.Receipt.{receipts_of_place}
use Rattle.reg_model.specs.declared.answer.Receipt.{Receipt}
use Rattle.unwind_step.specs.declared.backtrace.FrameLine.{FrameLine}
use Rattle.script_text.specs.Fields.{pieces}
use Rattle.script_text.specs.JournalData.{JournalData}
use Rattle.script_text.specs.ScriptData.{ScriptData}
use Rattle.script_text.specs.Text.{answer_lines, journal_text}
use Rattle.script_text.specs.declared.journal.Answer.{Answer}
use Rattle.script_text.specs.declared.journal.Answer.TheVariants.{Register, Deregister, Replace, Load, Unload, Find, Unwind}
use Rattle.script_text.proofs.TraceLines.{trace_count}
use Rattle.journal_reader.specs.JournalLines.{event_lines, journal_lines, line_at, numbered_lines, round_lines, thread_lines, updates_line}
use Rattle.journal_reader.proofs.TextLines.{journal_pieces}
use Rattle.journal_check.specs.Passing.{text_lines}
use Rattle.journal_check.specs.Telling.{TellingData, account_of, is_update, receipt_lines, tell_answer, tell_line, tell_receipt, tell_rounds, tell_thread, told_after}
use Rattle.journal_check.specs.TextFlaws.{answers_of, flattened}
use Rattle.journal_check.specs.declared.teller.Bounds.{Bounds}

pub lines_each : (images : List SpanData) (answer : Answer) → length (receipt_lines images answer) ≡ length (answer_lines answer)
lines_each images (Register image answer) = refl
lines_each images (Deregister base answer) = refl
lines_each images (Replace image answer) = refl
lines_each images (Load image answer) = refl
lines_each images (Unload base answer) = refl
lines_each images (Find pc place) = refl
lines_each images (Unwind snapshot trace) =
    let left = length-append (map (λ (line : FrameLine). receipts_of_place line.look line.place) trace.frames) ([] ∷ []) in
    let kept = length-map trace.frames (λ (line : FrameLine). receipts_of_place line.look line.place) in
    let right = trace_count trace in
    omega arith

-- ---- as they are told

lines_more : (x : Answer) (xs : List Answer) → text_lines (x ∷ xs) ≡ length (answer_lines x) + text_lines xs
lines_more x xs = sum_by-cons (λ (a : Answer). length (answer_lines a)) x xs

lines_both : (xs ys : List Answer) → text_lines (xs ++ ys) ≡ text_lines xs + text_lines ys
lines_both xs ys = sum_by-append (λ (a : Answer). length (answer_lines a)) xs ys

module _ (images : List SpanData) where
  receipts_keep : (bounds : Bounds) (t : TellingData) (receipts : List Receipt) → (told_after (tell_receipt bounds) t receipts).line ≡ t.line
  receipts_keep bounds t [] = refl
  receipts_keep bounds t (r ∷ receipts) = receipts_keep bounds (tell_receipt bounds t r) receipts

  after_lines : (bounds : Bounds) (t : TellingData) (lines : List (List Receipt)) → (told_after (tell_line bounds) t lines).line ≡ t.line + length lines
  after_lines bounds t [] = omega arith
  after_lines bounds t (receipts ∷ lines) =
      let rest = after_lines bounds (tell_line bounds t receipts) lines in
      let kept = receipts_keep bounds t receipts in
      omega arith

  after_answers : (bounds : Bounds) (t : TellingData) (answers : List Answer) → (told_after (tell_answer images bounds) t answers).line ≡ t.line + text_lines answers
  after_answers bounds t [] = omega arith
  after_answers bounds t (answer ∷ answers) =
      let rest = after_answers bounds (tell_answer images bounds t answer) answers in
      let here = after_lines bounds t (receipt_lines images answer) in
      let same = lines_each images answer in
      let more = lines_more answer answers in
      omega arith

  after_threads : (bounds : Bounds) (t : TellingData) (threads : List (List Answer)) → (told_after (tell_thread images bounds) t threads).line ≡ t.line + text_lines (flattened threads)
  after_threads bounds t [] = omega arith
  after_threads bounds t (answers ∷ threads) =
      let rest = after_threads bounds (tell_thread images bounds t answers) threads in
      let here = after_answers bounds (record { told = t.told; line = t.line; seen = 0 }) answers in
      let both = lines_both answers (flattened threads) in
      omega arith

  after_rounds : (callers done : ℕ) (t : TellingData) (rounds : List (List (List Answer))) → (tell_rounds images callers done t rounds).line ≡ t.line + text_lines (answers_of rounds)
  after_rounds callers done t [] = omega arith
  after_rounds callers done t (round ∷ rounds) =
      let after = done + sum_by (count_by is_update) round in
      let bounds : Bounds = record { before = done; after = after; callers = callers + length round } in
      let rest = after_rounds (callers + length round) after (told_after (tell_thread images bounds) t round) rounds in
      let here = after_threads bounds t round in
      let both = lines_both (flattened round) (answers_of rounds) in
      omega arith

-- ---- as they stand in the text

thread_count : (round thread number : ℕ) (answers : List Answer) → length (numbered_lines (event_lines round thread) number answers) ≡ text_lines answers
thread_count round thread number [] = refl
thread_count round thread number (answer ∷ answers) =
    let rest = thread_count round thread (number + 1) answers in
    let both = length-append (event_lines round thread number answer) (numbered_lines (event_lines round thread) (number + 1) answers) in
    let here = length-map (answer_lines answer) (line_at round thread number) in
    let more = lines_more answer answers in
    omega arith

round_count : (round number : ℕ) (threads : List (List Answer)) → length (numbered_lines (thread_lines round) number threads) ≡ text_lines (flattened threads)
round_count round number [] = refl
round_count round number (answers ∷ threads) =
    let rest = round_count round (number + 1) threads in
    let both = length-append (thread_lines round number answers) (numbered_lines (thread_lines round) (number + 1) threads) in
    let here = thread_count round number 1 answers in
    let more = lines_both answers (flattened threads) in
    omega arith

rounds_count : (number : ℕ) (rounds : List (List (List Answer))) → length (numbered_lines round_lines number rounds) ≡ text_lines (answers_of rounds)
rounds_count number [] = refl
rounds_count number (round ∷ rounds) =
    let rest = rounds_count (number + 1) rounds in
    let both = length-append (round_lines number round) (numbered_lines round_lines (number + 1) rounds) in
    let here = round_count number 1 round in
    let more = lines_both (flattened round) (answers_of rounds) in
    omega arith

pub last_line_is : (script : ScriptData) (journal : JournalData) → (account_of script journal).last + 1 ≡ length (pieces 10 (journal_text journal))
last_line_is script journal =
    let told = after_rounds script.images 1 0 (record { told = []; line = 1; seen = 0 }) journal.rounds in
    let cut = ap (λ (x : List (List ℕ)). length x) (journal_pieces journal) in
    let ends = length-append (journal_lines journal) ([] ∷ []) in
    let all = length-append (numbered_lines round_lines 1 journal.rounds) (updates_line journal.updates ∷ []) in
    let rounds = rounds_count 1 journal.rounds in
    omega arith

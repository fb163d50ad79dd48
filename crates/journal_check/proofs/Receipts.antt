-- The receipts that are told, in order.
use Rattle.std.proofs.Common.{◌≡◌, ℕ, ◌+◌, List, [], ◌∷◌, ◌++◌, length, map, refl, sym, ◌∙◌, ap, append_assoc}
use Rattle.std.specs.List.{flat_map, sum_by, count_by}
use Rattle.std.proofs.lemmas.List.{append-nil}
use Rattle.reg_model.specs.SpanData.{SpanData}
use Rattle.reg_model.specs.Receipt.{receipts_of_place}
use Rattle.reg_model.specs.declared.answer.Receipt.{Receipt}
use Rattle.unwind_step.specs.declared.backtrace.FrameLine.{FrameLine}
use Rattle.script_text.specs.Lawful.{receipts_of, in_one}
use Rattle.script_text.specs.declared.journal.Answer.{Answer}
use Rattle.script_text.specs.declared.journal.Answer.TheVariants.{Register, Deregister, Replace, Load, Unload, Find, Unwind}
use Rattle.receipt_check.specs.declared.account.Told.{Told}
use Rattle.receipt_check.specs.Flaws.{told_receipts}
use Rattle.journal_check.specs.Telling.{TellingData, told_after, receipt_lines, tell_receipt, tell_line, tell_answer, tell_thread, tell_rounds, is_update}
use Rattle.journal_check.specs.declared.teller.Bounds.{Bounds}

abbrev Joined : List (List Receipt) → List Receipt
Joined lines = flat_map (λ receipts. receipts) lines

told_receipts-append : (told : List Told) (t : Told) → told_receipts (told ++ t ∷ []) ≡ told_receipts told ++ t.receipt ∷ []
told_receipts-append [] t = refl
told_receipts-append (u ∷ told) t = ap (λ rest. u.receipt ∷ rest) (told_receipts-append told t)

-- what each item of a list adds, they add one after another
adds_after : {X : Type 0} (tell : TellingData → X → TellingData) (adds : X → List Receipt) → ((t : TellingData) (x : X) → told_receipts (tell t x).told ≡ told_receipts t.told ++ adds x) → (t : TellingData) (xs : List X) → told_receipts (told_after tell t xs).told ≡ told_receipts t.told ++ flat_map adds xs
adds_after tell adds add t [] = sym (append-nil (told_receipts t.told))
adds_after tell adds add t (x ∷ xs) = adds_after tell adds add (tell t x) xs ∙ ap (λ front. front ++ flat_map adds xs) (add t x) ∙ append_assoc (told_receipts t.told) (adds x) (flat_map adds xs)

pub single : (rs : List Receipt) → flat_map (λ r. r ∷ []) rs ≡ rs
single [] = refl
single (r ∷ rs) = ap (λ rest. r ∷ rest) (single rs)

line_adds : (bounds : Bounds) (t : TellingData) (receipts : List Receipt) → told_receipts (tell_line bounds t receipts).told ≡ told_receipts t.told ++ receipts
line_adds bounds t receipts =
    adds_after (tell_receipt bounds) (λ r. r ∷ []) (λ t r. told_receipts-append t.told (record { line = t.line; before = bounds.before; after = bounds.after; callers = bounds.callers; seen = t.seen; receipt = r })) t receipts
    ∙ ap (λ rs. told_receipts t.told ++ rs) (single receipts)

joined_frames : (frames : List FrameLine) → Joined (map (λ line. receipts_of_place line.look line.place) frames ++ [] ∷ []) ≡ flat_map (λ line. receipts_of_place line.look line.place) frames
joined_frames [] = refl
joined_frames (line ∷ frames) = ap (λ rest. receipts_of_place line.look line.place ++ rest) (joined_frames frames)

-- the receipts of an event's lines are those of the event
pub joined_lines : (images : List SpanData) (answer : Answer) → Joined (receipt_lines images answer) ≡ receipts_of images answer
joined_lines images (Register image answer) = refl
joined_lines images (Deregister base answer) = refl
joined_lines images (Replace image answer) = refl
joined_lines images (Load image answer) = refl
joined_lines images (Unload base answer) = refl
joined_lines images (Find pc place) = append-nil (receipts_of_place pc place)
joined_lines images (Unwind snapshot trace) = joined_frames trace.frames

module _ (images : List SpanData) where
  answer_adds : (bounds : Bounds) (t : TellingData) (answer : Answer) → told_receipts (tell_answer images bounds t answer).told ≡ told_receipts t.told ++ receipts_of images answer
  answer_adds bounds t answer =
      adds_after (tell_line bounds) (λ receipts. receipts) (line_adds bounds) t (receipt_lines images answer)
      ∙ ap (λ rs. told_receipts t.told ++ rs) (joined_lines images answer)

  abbrev pub of_thread : List Answer → List Receipt
  of_thread answers = flat_map (receipts_of images) answers

  thread_adds : (bounds : Bounds) (t : TellingData) (answers : List Answer) → told_receipts (tell_thread images bounds t answers).told ≡ told_receipts t.told ++ of_thread answers
  thread_adds bounds t answers = adds_after (tell_answer images bounds) (receipts_of images) (answer_adds bounds) (record { told = t.told; line = t.line; seen = 0 }) answers

  abbrev of_round : List (List Answer) → List Receipt
  of_round round = flat_map of_thread round

  joined_round : (round : List (List Answer)) → of_round round ≡ Joined (map of_thread round)
  joined_round [] = refl
  joined_round (answers ∷ round) = ap (λ rest. of_thread answers ++ rest) (joined_round round)

  pub rounds_add : (callers done : ℕ) (t : TellingData) (rounds : List (List (List Answer))) → told_receipts (tell_rounds images callers done t rounds).told ≡ told_receipts t.told ++ in_one (map (map of_thread) rounds)
  rounds_add callers done t [] = sym (append-nil (told_receipts t.told))
  rounds_add callers done t (round ∷ rounds) =
      let after = done + sum_by (count_by is_update) round in
      let bounds : Bounds = record { before = done; after = after; callers = callers + length round } in
      let here = adds_after (tell_thread images bounds) of_thread (thread_adds bounds) t round ∙ ap (λ rs. told_receipts t.told ++ rs) (joined_round round) in
      rounds_add (callers + length round) after (told_after (tell_thread images bounds) t round) rounds
      ∙ ap (λ front. front ++ in_one (map (map of_thread) rounds)) here
      ∙ append_assoc (told_receipts t.told) (Joined (map of_thread round)) (in_one (map (map of_thread) rounds))
